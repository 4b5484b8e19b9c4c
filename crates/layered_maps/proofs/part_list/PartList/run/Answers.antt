use Rattle.std.proofs.Common.{◌≡◌, ◌+◌, ◌/◌, ◌%◌, Some, drop, option_copied, slice_get, sym, ap, ◌∙◌, subst}
use Rattle.layered_maps.proofs.JoinedLists.{run_placed}
use Rattle.layered_maps.proofs.part_list.PartList.run.Goals as goal

pub returns-in-Some : goal.returns-in-Some
returns-in-Some g c = λ k x e.
    let at = c.args.at in
    let leaves = c.self.inside.leaves in
    let size = c.self.inside.size in
    let there : slice_get leaves (at / size) ≡ Some c.in-Some.leaf.now
    = sym c.leaf.ensures ∙ ap option_copied c.in-Some.is in
    subst (λ l. slice_get l (at + k) ≡ Some x) c.self.view_is
    (run_placed leaves at size c.self.invariant.0 c.self.invariant.1 c.in-Some.leaf.now c.tail.result.now there
    (c.tail.ensures ∙ ap (drop (at % size)) c.items.ensures) k x e)
