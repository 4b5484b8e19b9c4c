-- The blocks that stand before others are built.
use Rattle.std.specs.Prelude.{List, [], Option, Some, None, cond}
use Rattle.std.specs.List.{list_any}
use Rattle.std.specs.FinMap.{FinMap, find, get}
use Rattle.std.specs.Ordering.{eq_by_cmp}
use Rattle.road_base.specs.declared.ids.WayId.{WayId}
use Rattle.road_model.specs.declared.blocks.Block.{Block}
use Rattle.road_model.specs.Orders.{way_cmp}
use Rattle.change_apply.specs.declared.known.Standing.{Standing}
use Rattle.change_apply.specs.Rebuilding.{over}

-- those that were built
abbrev pub built_in : Standing → List (WayId × Block)
built_in s = over s.fresh.now.map []

-- the newest block of the way: that which was built, also where it has no pieces, and else that which stood before
abbrev pub newest : List (WayId × Block) → FinMap way_cmp Block → WayId → Option Block
newest rebuilt listed w = elim (find way_cmp w rebuilt) [ None ↦ get listed w | Some b ↦ Some b ]

-- the newest block of the way, and none of one of these ways
abbrev pub newest_but : List WayId → List (WayId × Block) → FinMap way_cmp Block → WayId → Option Block
newest_but ways rebuilt listed w = cond (list_any (eq_by_cmp way_cmp w) ways) None (newest rebuilt listed w)
