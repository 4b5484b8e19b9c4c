use Rattle.std.proofs.Common.{◌≡◌, ◌++◌, take}
use Rattle.layered_maps.proofs.trunk.add_copies.Given as goal

abbrev pub invariant-loop-value : goal.invariant-loop-value
invariant-loop-value g l = l.list.items ≡ l.initial.list.items ++ take l.value-index l.values
