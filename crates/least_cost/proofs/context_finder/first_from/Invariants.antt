use Rattle.std.proofs.Common.{◌-◌, ◌≤◌, length}
use Rattle.least_cost.proofs.context_finder.first_from.Given as goal

-- the search stays within the list
abbrev pub invariant-loop-low : goal.invariant-loop-low
invariant-loop-low l = (l.low ≤ l.high) × (l.high ≤ length l.list)

abbrev pub decreases-loop-low : goal.decreases-loop-low
decreases-loop-low l = l.high - l.low
