use Rattle.std.proofs.Common.{ℕ, ◌<◌}
use Rattle.context_search.specs.Ends.{BeginsBy}
use Rattle.context_search.proofs.ends.first_from.Given as goal

-- no step so far begins there
abbrev pub invariant-loop-step : goal.invariant-loop-step
invariant-loop-step l = (k : ℕ) → k < l.step → BeginsBy l.places k l.node → ⊥
