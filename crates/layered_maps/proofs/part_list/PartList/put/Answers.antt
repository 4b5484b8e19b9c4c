use Rattle.std.proofs.Common.{◌≡◌, ◌<◌, true, false, length, slice_set, refl, sym, ap, ◌∙◌, subst}
use Rattle.layered_maps.specs.PartLists.{AreFull, joined}
use Rattle.layered_maps.proofs.JoinedLists.{put_placed, set_long}
use Rattle.layered_maps.proofs.part_list.PartList.put.Goals as goal

pub invariant_of-self : goal.invariant_of-self
invariant_of-self g c =
    let at = c.args.at in
    let value = c.args.value in
    let leaves = c.self.inside.leaves in
    let size = c.self.inside.size in
    let held = c.self.invariant in
    let new = c.put.new.self in
    elim c.put.result as (λ b. c.put.result ≡ b
    → (0 < size) × AreFull size new × (c.self.inside.len ≡ length (joined new))) [
      | true ↦ λ t.
          let both = put_placed size held.0 leaves new held.1 at value (c.put.ensures.put t) in
          (held.0, both.1, held.2 ∙ sym (ap length both.0 ∙ set_long (joined leaves) at value))
      | false ↦ λ t.
          subst (λ l. (0 < size) × AreFull size l × (c.self.inside.len ≡ length (joined l)))
          (sym (c.put.ensures.none t)) held
    ] refl

pub returns-clause-put : goal.returns-clause-put
returns-clause-put g c = λ t.
    let held = c.self.invariant in
    (put_placed c.self.inside.size held.0 c.self.inside.leaves c.put.new.self held.1 c.args.at c.args.value
    (c.put.ensures.put t)).0
    ∙ ap (λ l. slice_set l c.args.at c.args.value) c.self.view_is
