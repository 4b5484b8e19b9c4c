use Rattle.std.proofs.Common.{ℕ, ◌+◌, ◌<◌, Some, take}
use Rattle.context_search.specs.Ends.{StopsBy}
use Rattle.least_cost.specs.Costs.{plus}
use Rattle.least_cost.specs.Certified.{AtMost}
use Rattle.least_cost.specs.PlaceCosts.{places_cost}
use Rattle.least_cost.proofs.conditions.holds_at_ends.Given as goal

-- it holds of the steps so far
abbrev pub invariant-loop-step : goal.invariant-loop-step
invariant-loop-step l = (j : ℕ) → j < l.step → StopsBy l.places j l.node
    → AtMost l.cost (plus l.number (Some (places_cost (take (j + 2) l.places))))
