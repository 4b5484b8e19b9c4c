use Rattle.std.proofs.Common.{◌≡◌, ◌++◌, map, take, drop}
use Rattle.layered_maps.specs.Walks.{behind_key, run_pairs}
use Rattle.layered_maps.proofs.changes.take_key.Given as goal

-- the key is taken off the runs so far
abbrev pub invariant-loop-at : goal.invariant-loop-at
invariant-loop-at g l =
    map run_pairs l.runs ≡ map (behind_key g.K.Ord.cmp l.key) (take l.at (map run_pairs l.initial.runs))
    ++ drop l.at (map run_pairs l.initial.runs)
