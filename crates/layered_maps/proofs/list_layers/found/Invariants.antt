use Rattle.std.proofs.Common.{◌≡◌, drop}
use Rattle.std.specs.FinMap.{find}
use Rattle.layered_maps.specs.Layers.{values_of}
use Rattle.layered_maps.specs.Lists.{lists_in}
use Rattle.layered_maps.proofs.list_layers.found.Given as goal

-- the list is the one that is found in the runs to come
abbrev pub invariant-loop-run : goal.invariant-loop-run
invariant-loop-run g l =
    find g.K.Ord.cmp l.key (lists_in (values_of (drop l.run-index l.runs)))
    ≡ find g.K.Ord.cmp l.key (lists_in (values_of l.runs))
