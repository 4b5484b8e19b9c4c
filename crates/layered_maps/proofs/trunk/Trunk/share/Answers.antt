use Rattle.std.proofs.Common.{sym, subst, ap, ◌∙◌}
use Rattle.layered_maps.specs.Layers.{values_of}
use Rattle.layered_maps.specs.PartLists.{AreFull, joined}
use Rattle.layered_maps.proofs.JoinedLists.{same_leaves}
use Rattle.layered_maps.proofs.trunk.Trunk.share.Goals as goal

pub invariant_of-result : goal.invariant_of-result
invariant_of-result g c =
    subst (AreFull 64) (sym (same_leaves c.in_ok-branches.branches.items c.self.inside.branches.items
    (c.in_ok-branches.ensures ∙ ap values_of c.as_slice.ensures.value))) c.self.invariant

pub returns : goal.returns
returns g c =
    ap joined (same_leaves c.in_ok-branches.branches.items c.self.inside.branches.items
    (c.in_ok-branches.ensures ∙ ap values_of c.as_slice.ensures.value))
    ∙ c.self.view_is
