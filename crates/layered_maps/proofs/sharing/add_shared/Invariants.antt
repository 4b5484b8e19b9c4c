use Rattle.std.proofs.Common.{◌≡◌, ◌++◌, take}
use Rattle.layered_maps.specs.Layers.{values_of}
use Rattle.layered_maps.proofs.sharing.add_shared.Given as goal

abbrev pub invariant-loop-run : goal.invariant-loop-run
invariant-loop-run g l =
    values_of l.list.items ≡ values_of l.initial.list.items ++ values_of (take l.run-index l.runs)
