-- Places that were counted in the squares of a grid.
use Rattle.std.specs.Prelude.{◌≡◌, ℕ, Bool, List}
use Rattle.road_base.specs.declared.location.Location.{Location}
use Rattle.cell_plan.specs.declared.counts.PlaceCounts.{PlaceCounts}
use Rattle.cell_plan.specs.Sums.{tallied, lying}

-- whichever squares of the grid are wanted, what is held of them sums up to the number of the places that lie in them
pub record HasCounted (places : List Location) (counts : PlaceCounts) : Type 0 where
  pub each : (wanted : ℕ → ℕ → Bool) → tallied wanted counts.tallies.items ≡ lying wanted counts.grid.side places
