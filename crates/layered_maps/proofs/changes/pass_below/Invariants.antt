use Rattle.std.proofs.Common.{◌≡◌, ◌++◌, map, take, drop}
use Rattle.layered_maps.specs.Maps.{from_key}
use Rattle.layered_maps.specs.Walks.{run_pairs}
use Rattle.layered_maps.proofs.changes.pass_below.Given as goal

-- the runs so far begin at the key
abbrev pub invariant-loop-at : goal.invariant-loop-at
invariant-loop-at g l =
    map run_pairs l.runs ≡ map (from_key g.K.Ord.cmp l.key) (take l.at (map run_pairs l.initial.runs))
    ++ drop l.at (map run_pairs l.initial.runs)
