use Rattle.std.proofs.Common.{◌≡◌, ◌++◌, map, take}
use Rattle.layered_maps.specs.Layers.{pair}
use Rattle.layered_maps.proofs.entry_run.add_shared.Given as goal

abbrev pub invariant-loop-entry : goal.invariant-loop-entry
invariant-loop-entry g l =
    map pair l.all.items ≡ map pair l.initial.all.items ++ map pair (take l.entry-index l.entries)
