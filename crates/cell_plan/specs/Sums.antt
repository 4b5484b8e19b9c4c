-- What tallies of squares of a grid sum up to, and how many places lie in them.
use Rattle.std.specs.Prelude.{ℕ, ◌/◌, Bool, List, if◌then◌else◌}
use Rattle.std.specs.List.{sum_by, count_by}
use Rattle.road_base.specs.declared.location.Location.{Location}
use Rattle.cell_plan.specs.declared.sums.Tally.{Tally}
use Rattle.cell_plan.specs.Grids.{units_east, units_north}

-- the tally's count, if its square is wanted
abbrev pub weight : (ℕ → ℕ → Bool) → Tally → ℕ
weight wanted t = if wanted t.column t.row then t.count else 0

-- what the tallies of the wanted squares sum up to
abbrev pub tallied : (ℕ → ℕ → Bool) → List Tally → ℕ
tallied wanted tallies = sum_by (weight wanted) tallies

-- how many of the places lie in the wanted squares of the grid of that side
abbrev pub lying : (ℕ → ℕ → Bool) → ℕ → List Location → ℕ
lying wanted side places = count_by (λ p. wanted (units_east p / side) (units_north p / side)) places
