use Rattle.std.proofs.Common.{◌≡◌, map, drop}
use Rattle.context_search.specs.Marks.{at_of}
use Rattle.least_cost.specs.Lowered.{least_at}
use Rattle.least_cost.proofs.numbers.least_costs.Given as goal

-- the visits from there on are looked at
abbrev pub invariant-loop-place : goal.invariant-loop-place
invariant-loop-place l = l.costs.items ≡ map (least_at (drop l.place l.visits)) (map at_of l.spots)
