use Rattle.std.proofs.Common.{ℕ, ◌≤◌}
use Rattle.context_search.specs.Ends.{StopsBy}
use Rattle.context_search.proofs.ends.last_to.Given as goal

-- no step from there on ends there
abbrev pub invariant-loop-step : goal.invariant-loop-step
invariant-loop-step l = (k : ℕ) → StopsBy l.places k l.node → l.step ≤ k → ⊥
