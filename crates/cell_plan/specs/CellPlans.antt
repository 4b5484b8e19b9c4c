-- Cells that were planned.
use Rattle.std.specs.Prelude.{◌≡◌, ℕ, ◌≤◌, ◌⊎◌, List, IsTrue, length, max, pos, negsuc, ◌+ℤ◌, ◌-ℤ◌, ◌≤ℤ◌, ◌<ℤ◌}
use Rattle.std.specs.List.{filter}
use Rattle.road_base.specs.declared.location.Location.{Location}
use Rattle.map_cells.specs.declared.area.Area.{Area}
use Rattle.map_cells.specs.Areas.{is_in}
use Rattle.cell_plan.specs.declared.cells.PlanRule.{PlanRule}
use Rattle.cell_plan.specs.declared.cells.PlannedCell.{PlannedCell}

-- the place is in the area, and at least the margin away from each of its edges that isn't an edge of the world
pub record IsWellIn (margin : ℕ) (area : Area) (p : Location) : Type 0 where
  pub inside : IsTrue (is_in area p)
  pub west : ((area.west +ℤ pos margin) ≤ℤ p.lon) ⊎ (area.west ≡ negsuc 1799999999)
  pub east : ((p.lon +ℤ pos margin) ≤ℤ area.east) ⊎ (area.east ≡ pos 1800000000)
  pub south : ((area.south +ℤ pos margin) ≤ℤ p.lat) ⊎ (area.south ≡ negsuc 899999999)
  pub north : ((p.lat +ℤ pos margin) ≤ℤ area.north) ⊎ (area.north ≡ pos 900000000)

-- Each place of the cell is in the grown area, and at least the margin away from each edge of it that isn't an edge of
-- the world. (Nothing wraps around at 180 degrees.)
abbrev pub IsGrown : ℕ → Area → Area → Type 0
IsGrown margin cell grown = (p : Location) → IsTrue (is_in cell p) → IsWellIn margin grown p

-- how many of the places are in the area
abbrev pub places_in : Area → List Location → ℕ
places_in area places = length (filter (λ p. is_in area p) places)

-- no more places than the rule allows are in the grown area, or the cell is no longer, from its west edge to its east
-- edge, than the margin or than a square of the grid in which places were counted
abbrev pub IsSmall : PlanRule → ℕ → List Location → PlannedCell → Type 0
IsSmall rule side places c =
    (places_in c.grown places ≤ rule.most) ⊎ ((c.cell.east -ℤ c.cell.west) <ℤ pos (max rule.margin side))

-- what is told of a cell by counts of these places in a grid of that side
pub record IsCounted (rule : PlanRule) (side : ℕ) (places : List Location) (c : PlannedCell) : Type 0 where
  pub count : c.count ≡ places_in c.cell places
  pub small : IsSmall rule side places c
