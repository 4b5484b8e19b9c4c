use Rattle.std.proofs.Common.{ℕ, ◌<◌, Some, drop}
use Rattle.context_search.specs.Ends.{BeginsBy}
use Rattle.least_cost.specs.Certified.{AtMost}
use Rattle.least_cost.specs.PlaceCosts.{places_cost}
use Rattle.least_cost.specs.Shown.{HoldsAtEnds}
use Rattle.least_cost.proofs.conditions.holds_at_starts.Given as goal

-- it holds from the steps so far on
abbrev pub invariant-loop-step : goal.invariant-loop-step
invariant-loop-step l = (i : ℕ) → i < l.step → BeginsBy l.places i l.claim.a
    → AtMost l.number (Some (places_cost (drop i l.places)))
    × HoldsAtEnds l.claim.b l.claim.cost (Some 0) (drop i l.places)
