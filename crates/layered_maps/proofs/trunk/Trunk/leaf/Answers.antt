use Rattle.std.proofs.Common.{◌≡◌, ◌/◌, ◌%◌, Some, None, option_copied, slice_get, sym, ap, ◌∙◌}
use Rattle.layered_maps.specs.Layers.{values_of}
use Rattle.layered_maps.proofs.JoinedLists.{leaf_there, no_leaf}
use Rattle.layered_maps.proofs.trunk.Trunk.leaf.Goals as goal

pub returns-in-Some : goal.returns-in-Some
returns-in-Some g c =
    let at = c.args.at in
    let branches = c.self.inside.branches.items in
    let there : slice_get branches (at / 64) ≡ Some c.in-Some.branch.now
    = ap (λ l. slice_get l (at / 64)) (sym c.as_slice.ensures.value) ∙ sym c.item_at.ensures.item
    ∙ ap option_copied c.in-Some.is in
    c.leaf_of.ensures ∙ ap (λ l. slice_get (values_of l) (at % 64)) (c.items.ensures ∙ c.deref.ensures)
    ∙ leaf_there branches c.self.invariant at c.in-Some.branch.now there ∙ ap (λ l. slice_get l at) c.self.view_is

pub returns-in-None : goal.returns-in-None
returns-in-None g c =
    let at = c.args.at in
    let branches = c.self.inside.branches.items in
    let none : slice_get branches (at / 64) ≡ None
    = ap (λ l. slice_get l (at / 64)) (sym c.as_slice.ensures.value) ∙ sym c.item_at.ensures.item
    ∙ ap option_copied c.in-None.is in
    no_leaf branches c.self.invariant at none ∙ ap (λ l. slice_get l at) c.self.view_is
