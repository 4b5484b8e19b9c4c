use Rattle.std.proofs.Common.{◌-◌, ◌^◌, List}
use Rattle.road_base.specs.declared.location.Location.{Location}
use Rattle.cell_plan.specs.CountedPlaces.{HasCounted}
use Rattle.cell_plan.proofs.counts.PlaceCounts.settle.Given as goal

-- the same places are counted
abbrev pub invariant-loop-self : goal.invariant-loop-self
invariant-loop-self l = (places : List Location) → HasCounted places l.fn.self → HasCounted places l.self

-- the squares grow
abbrev pub decreases-loop-self : goal.decreases-loop-self
decreases-loop-self l = 2 ^ 32 - l.self.grid.side
