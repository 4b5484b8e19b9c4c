use Rattle.std.proofs.Common.{◌≡◌, ◌++◌, map, take}
use Rattle.std.specs.FinMap.{find}
use Rattle.layered_maps.specs.Lists.{list_or_none}
use Rattle.layered_maps.proofs.list_run.ListRun.merged_lists.Given as goal

abbrev pub invariant-loop-key : goal.invariant-loop-key
invariant-loop-key g l =
    l.lists ≡ map (λ k. list_or_none (find g.K.Ord.cmp k (l.later ++ l.self))) (take l.key-index l.keys)
