-- Parts of the world, and the areas that have them.
use Rattle.std.specs.Prelude.{◌≡◌, ℕ, ◌+◌, ◌*◌, ◌≤◌, pos, ◌+ℤ◌}
use Rattle.road_base.specs.declared.location.Location.{Location}
use Rattle.map_cells.specs.declared.area.Area.{Area}
use Rattle.cell_plan.specs.declared.intervals.Rect.{Rect}
use Rattle.cell_plan.specs.Grids.{in_units, in_squares, width}

-- the units of the whole world
abbrev pub whole_world : Rect
whole_world = record {
  columns = record { start = 0; end = 3600000001 };
  rows = record { start = 900000000; end = 2700000001 };
}

-- the area is of these units: its edges are in it, where units end before their end
pub record AreEdges (units : Rect) (area : Area) : Type 0 where
  pub west : (area.west +ℤ pos 1800000000) ≡ pos units.columns.start
  pub east : (area.east +ℤ pos 1800000001) ≡ pos units.columns.end
  pub south : (area.south +ℤ pos 1800000000) ≡ pos units.rows.start
  pub north : (area.north +ℤ pos 1800000001) ≡ pos units.rows.end

-- the units are what of the squares of the grid of that side lies in the world
pub record IsCellOf (side : ℕ) (square units : Rect) : Type 0 where
  pub same : (p : Location) → in_units units p ≡ in_squares side square p
  pub length : units.columns.end ≤ units.columns.start + width square * side
