-- What holds while squares are divided.
use Rattle.std.specs.Prelude.{◌≡◌, ℕ, ◌+◌, ◌<◌, ◌≤◌, ◌⊎◌, Bool, List, IsTrue, Some, Contains, slice_get}
use Rattle.road_base.specs.declared.location.Location.{Location}
use Rattle.map_cells.specs.Areas.{is_in, AreApart}
use Rattle.cell_plan.specs.declared.intervals.Rect.{Rect}
use Rattle.cell_plan.specs.declared.sums.Tally.{Tally}
use Rattle.cell_plan.specs.declared.cells.PlanRule.{PlanRule}
use Rattle.cell_plan.specs.declared.cells.PlannedCell.{PlannedCell}
use Rattle.cell_plan.specs.Grids.{units_east, units_north, in_units, in_squares, is_near, touched}
use Rattle.cell_plan.specs.Sums.{tallied, lying}
use Rattle.cell_plan.specs.CellPlans.{IsGrown, IsCounted}

-- the cells have exactly the places of a part of the world, and two of them share none
pub record Covers (part : Location → Bool) (cells : List PlannedCell) : Type 0 where
  pub all : (p : Location) → IsTrue (part p) → (c : PlannedCell) × Contains cells c × IsTrue (is_in c.cell p)
  pub within : (p : Location) (c : PlannedCell) → Contains cells c → IsTrue (is_in c.cell p) → IsTrue (part p)
  pub apart : (i j : ℕ) (c d : PlannedCell) → i < j → slice_get cells i ≡ Some c → slice_get cells j ≡ Some d
      → AreApart c.cell d.cell

-- the place is in these units of 1e-7 degree, and at least the margin away from each of their edges that isn't an edge
-- of the world
pub record IsFarIn (margin : ℕ) (units : Rect) (p : Location) : Type 0 where
  pub inside : IsTrue (in_units units p)
  pub west : (units.columns.start + margin ≤ units_east p) ⊎ (units.columns.start ≡ 0)
  pub east : (units_east p + margin < units.columns.end) ⊎ (units.columns.end ≡ 3600000001)
  pub south : (units.rows.start + margin ≤ units_north p) ⊎ (units.rows.start ≡ 900000000)
  pub north : (units_north p + margin < units.rows.end) ⊎ (units.rows.end ≡ 2700000001)

-- the wanted squares of the grid are all among those of a square, or among those that are touched
abbrev pub AreNear : Rect → Rect → (ℕ → ℕ → Bool) → Type 0
AreNear square touched wanted =
    (column row : ℕ) → IsTrue (wanted column row) → IsTrue (is_near square touched column row)

-- whichever squares of the grid are wanted, if each is one of a square's or touches these units, the tallies of them
-- sum up to the number of the places that lie in them
pub record HoldsNear (side : ℕ) (square units : Rect) (tallies : List Tally) (places : List Location) : Type 0 where
  pub each : (wanted : ℕ → ℕ → Bool) → AreNear square (touched side units) wanted
      → tallied wanted tallies ≡ lying wanted side places

-- of the squares near, the tallies that are kept sum up to what all do
pub record KeepsNear (square touched : Rect) (all kept : List Tally) : Type 0 where
  pub each : (wanted : ℕ → ℕ → Bool) → AreNear square touched wanted → tallied wanted kept ≡ tallied wanted all

-- the places of these squares of the grid of that side are well inside of the units
abbrev pub AreFarIn : ℕ → ℕ → Rect → Rect → Type 0
AreFarIn margin side square units = (p : Location) → IsTrue (in_squares side square p) → IsFarIn margin units p

abbrev pub AreGrown : ℕ → List PlannedCell → Type 0
AreGrown margin cells = (c : PlannedCell) → Contains cells c → IsGrown margin c.cell c.grown

abbrev pub AreCounted : PlanRule → ℕ → List Location → List PlannedCell → Type 0
AreCounted rule side places cells = (c : PlannedCell) → Contains cells c → IsCounted rule side places c
