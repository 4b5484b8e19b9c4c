-- Blocks that are lent.
use Rattle.std.specs.Prelude.{◌≡◌, List, Some}
use Rattle.std.specs.FinMap.{FinMap, from_entries, get}
use Rattle.road_base.specs.declared.ids.WayId.{WayId}
use Rattle.road_model.specs.declared.blocks.Block.{Block}
use Rattle.road_model.specs.Orders.{way_cmp}

-- the map of these pairs
abbrev pub map_of : List (WayId × Block) → FinMap way_cmp Block
map_of pairs = from_entries pairs

-- each block stands at its way
abbrev pub AreAtTheirWays : FinMap way_cmp Block → Type 0
AreAtTheirWays m = (w : WayId) (b : Block) → get m w ≡ Some b → b.way ≡ w
