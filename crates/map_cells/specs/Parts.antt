-- A map that is compiled in parts, and what the parts make together.
use Rattle.std.specs.Prelude.{◌≡◌, ◌⊎◌, ℕ, ◌<◌, List, Some, Contains, map, slice_get}
use Rattle.road_base.specs.declared.ids.WayId.{WayId}
use Rattle.road_base.specs.Objects.{Objects}
use Rattle.road_model.specs.declared.blocks.Block.{Block}
use Rattle.road_model.specs.Rules.{Rules}
use Rattle.road_model.specs.Blocks.{IsRoadBlock}
use Rattle.ordered_lists.specs.Orders.{Lists}
use Rattle.road_model.specs.Orders.{way_cmp}
use Rattle.map_cells.specs.declared.area.Area.{Area}
use Rattle.map_cells.specs.Areas.{IsInside, CoverNodes}
use Rattle.map_cells.specs.Cells.{IsCell, Passes, IsCut}
use Rattle.map_cells.specs.Owners.{IsOwn}

-- objects, and the ways whose blocks are compiled from them
pub record Part : Type 0 where
  pub objects : Objects
  pub ways : List WayId

-- a cell: its objects, the area that was cut for them, and the cell itself, of which it owns ways
pub record Cell : Type 0 where
  pub objects : Objects
  pub area : Area
  pub cell : Area

-- these are cells of M: each cell lies in its area, its objects are those of a cell of M for the area, and each located
-- node of M lies in one of the cells, which don't overlap
pub record AreCells (M : Objects) (cells : List Cell) : Type 0 where
  pub inside : (c : Cell) → Contains cells c → IsInside c.cell c.area
  pub cut : (c : Cell) → Contains cells c → IsCell M c.objects c.area
  pub cover : CoverNodes M (map (λ c. c.cell) cells)

-- the block of one of the ways in the part's objects, which has pieces
pub record IsBlockIn (P : Rules) (part : Part) (b : Block) : Type 0 where
  pub among : Contains part.ways b.way
  pub road : IsRoadBlock part.objects P b

-- the part's ways pass in a cell of M that the part has the objects of, or were cut from M by links
abbrev pub IsTakenFrom : Objects → Part → Type 0
IsTakenFrom M part = (w : WayId) → Contains part.ways w
    → ((area : Area) × IsCell M part.objects area × Passes part.objects area w) ⊎ IsCut M part.objects w

-- no way stands in two parts
abbrev pub AreSeparate : List Part → Type 0
AreSeparate parts = (i j : ℕ) (p q : Part) (w : WayId) → i < j → slice_get parts i ≡ Some p → slice_get parts j ≡ Some q
    → Contains p.ways w → Contains q.ways w → ⊥

-- M is compiled in these parts: each is taken from M, and each road of M stands in one of them
pub record AreParts (M : Objects) (P : Rules) (parts : List Part) : Type 0 where
  pub taken : (p : Part) → Contains parts p → IsTakenFrom M p
  pub all : (b : Block) → IsRoadBlock M P b → (p : Part) × Contains parts p × Contains p.ways b.way

-- the blocks of all parts, ascending by way
abbrev pub AreBlocksOfParts : Rules → List Part → List Block → Type 0
AreBlocksOfParts P parts blocks =
    Lists (λ b. b.way) way_cmp (λ b. (p : Part) × Contains parts p × IsBlockIn P p b) blocks

-- Every road of M is owned by one of its cells and by no other: it is a way of that cell's objects, where its first
-- located node is the same as in M.
pub record HasOneOwner (M : Objects) (cells : List Cell) (w : WayId) : Type 0 where
  pub owner : Cell
  pub listed : Contains cells owner
  pub owns : IsOwn owner.objects owner.cell w
  pub only : (c : Cell) → Contains cells c → IsOwn c.objects c.cell w → c ≡ owner
