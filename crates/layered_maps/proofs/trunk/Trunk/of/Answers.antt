use Rattle.std.proofs.Common.{ap, ◌∙◌}
use Rattle.layered_maps.specs.Layers.{values_of}
use Rattle.layered_maps.proofs.JoinedLists.{leaves_full, leaves_joined}
use Rattle.layered_maps.proofs.trunk.Trunk.of.Goals as goal

pub invariant_of-result : goal.invariant_of-result
invariant_of-result g c = leaves_full 64 c.in_ok-branches.branches.items c.in_ok-branches.ensures.full

pub returns : goal.returns
returns g c = leaves_joined c.in_ok-branches.branches.items ∙ ap values_of c.in_ok-branches.ensures.items
