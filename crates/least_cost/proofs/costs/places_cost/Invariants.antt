use Rattle.std.proofs.Common.{◌≡◌, ◌≤◌, ◌+◌, ◌*◌, ◌^◌, drop}
use Rattle.least_cost.specs.PlaceCosts.{places_cost}
use Rattle.least_cost.proofs.costs.places_cost.Given as goal

-- what is added up, and what is left
abbrev pub invariant-loop-step : goal.invariant-loop-step
invariant-loop-step l = record {
  so_far : l.sum + places_cost (drop l.step l.places) ≡ places_cost l.places;
  small : l.sum ≤ l.step * 2 ^ 32;
}
