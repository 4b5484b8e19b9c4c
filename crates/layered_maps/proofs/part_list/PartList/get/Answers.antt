use Rattle.std.proofs.Common.{◌≡◌, ◌/◌, ◌%◌, Some, None, option_copied, slice_get, sym, ap, ◌∙◌}
use Rattle.layered_maps.proofs.JoinedLists.{at_part, get_placed}
use Rattle.layered_maps.proofs.part_list.PartList.get.Goals as goal

pub returns-in-Some : goal.returns-in-Some
returns-in-Some g c =
    let at = c.args.at in
    let leaves = c.self.inside.leaves in
    let size = c.self.inside.size in
    let there : slice_get leaves (at / size) ≡ Some c.in-Some.leaf.now
    = sym c.leaf.ensures ∙ ap option_copied c.in-Some.is in
    c.item_at.ensures.item ∙ ap (λ l. slice_get l (at % size)) c.items.ensures
    ∙ sym (get_placed leaves at size c.self.invariant.0 c.self.invariant.1 ∙ ap (λ o. at_part o (at % size)) there)
    ∙ ap (λ l. slice_get l at) c.self.view_is

pub returns-in-None : goal.returns-in-None
returns-in-None g c =
    let at = c.args.at in
    let leaves = c.self.inside.leaves in
    let size = c.self.inside.size in
    let none : slice_get leaves (at / size) ≡ None = sym c.leaf.ensures ∙ ap option_copied c.in-None.is in
    sym (get_placed leaves at size c.self.invariant.0 c.self.invariant.1 ∙ ap (λ o. at_part o (at % size)) none)
    ∙ ap (λ l. slice_get l at) c.self.view_is
