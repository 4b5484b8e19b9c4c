use Rattle.std.proofs.Common.{◌≡◌, drop}
use Rattle.ordered_lists.specs.Orders.{rises_from}
use Rattle.road_model.specs.Orders.{way_cmp}
use Rattle.cells.proofs.ways.ascend_from.Given as goal

-- all ascend where those that are left ascend behind the last one
abbrev pub invariant-loop-way : goal.invariant-loop-way
invariant-loop-way l = rises_from way_cmp l.fn.first l.rest ≡ rises_from way_cmp l.last (drop l.way-index l.rest)
