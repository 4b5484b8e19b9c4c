use Rattle.std.proofs.Common.{◌≡◌, true, false, IsTrue, sym, ap, ◌∙◌, subst}
use Rattle.std.specs.Ordering.{is_eq}
use Rattle.std.specs.FinMap.{find}
use Rattle.std.specs.List.{zip}
use Rattle.ordered_lists.specs.Orders.{rises}
use Rattle.layered_maps.proofs.KeyedLists.{rising_parted, tied_found, past_none, apart_none}
use Rattle.layered_maps.proofs.list_run.ListRun.get_near.Goals.{else-place-keys-via-then-place-keys+else-is_eq}
use Rattle.layered_maps.proofs.list_run.ListRun.get_near.Goals.{else-place-keys-via-else-place-keys}
use Rattle.layered_maps.proofs.list_run.ListRun.get_near.Goals as goal

pub first_near-place-requires-clause-parted : goal.first_near-place-requires-clause-parted
first_near-place-requires-clause-parted g c =
    let R = g.K.Ord.cmp in
    rising_parted R g.met.K.Ord.total c.as_slice-keys.result.now
    (subst (λ l. IsTrue (rises R l)) (sym c.as_slice-keys.ensures.value) c.self.invariant.1) c.args.key

pub returns-then-is_eq : goal.returns-then-is_eq
returns-then-is_eq g c =
    let R = g.K.Ord.cmp in
    let keys = c.as_slice-keys.result.now in
    let lists = c.self.inside.lists in
    let same : zip keys lists ≡ c.args.self.now =
    ap (λ l. zip l lists) c.as_slice-keys.ensures.value ∙ c.self.view_is in
    sym (ap (find R c.args.key) (sym same)
    ∙ tied_found R g.met.K.Ord.total keys
    (subst (λ l. IsTrue (rises R l)) (sym c.as_slice-keys.ensures.value) c.self.invariant.1) c.args.key lists
    c.first_near-place.result c.first_near-place.ensures.point c.index-keys-place.result c.at.result.now
    c.if-place-keys.true
    (subst (λ x. is_eq (R x c.args.key) ≡ true) c.index-keys-place.is
    (ap is_eq (sym c.cmp.ensures) ∙ sym c.is_eq.ensures ∙ c.if-is_eq.true)) c.at.ensures)

pub returns-else-place-keys : goal.returns-else-place-keys
returns-else-place-keys g c =
    let R = g.K.Ord.cmp in
    let keys = c.as_slice-keys.result.now in
    let lists = c.self.inside.lists in
    let up : IsTrue (rises R keys) =
    subst (λ l. IsTrue (rises R l)) (sym c.as_slice-keys.ensures.value) c.self.invariant.1 in
    let same : zip keys lists ≡ c.args.self.now =
    ap (λ l. zip l lists) c.as_slice-keys.ensures.value ∙ c.self.view_is in
    elim c.else-place-keys.branch [
      | else-place-keys-via-then-place-keys+else-is_eq w ↦
          sym (ap (find R c.args.key) (sym same)
          ∙ apart_none R g.met.K.Ord.total keys up c.args.key lists c.first_near-place.result
          c.first_near-place.ensures.point w.index-keys-place.result w.if-place-keys.true
          (subst (λ x. is_eq (R x c.args.key) ≡ false) w.index-keys-place.is
          (ap is_eq (sym w.cmp.ensures) ∙ sym w.is_eq.ensures ∙ w.if-is_eq.false)))
      | else-place-keys-via-else-place-keys w ↦
          sym (ap (find R c.args.key) (sym same)
          ∙ past_none R g.met.K.Ord.total keys up c.args.key lists c.first_near-place.result
          c.first_near-place.ensures.point w.if-place-keys.false)
    ]
