use Rattle.std.proofs.Common.{IsTrue, map, take}
use Rattle.ordered_lists.specs.Orders.{rises}
use Rattle.road_model.specs.Orders.{way_cmp}
use Rattle.graph_merge.proofs.putting.first_not_above.Given as goal

-- the blocks so far ascend
abbrev pub invariant-loop-at : goal.invariant-loop-at
invariant-loop-at l = IsTrue (rises way_cmp (map (λ b. b.way) (take l.at l.blocks)))
