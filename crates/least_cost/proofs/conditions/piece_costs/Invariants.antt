use Rattle.std.proofs.Common.{◌≡◌, map, take}
use Rattle.context_search.specs.Marks.{at_of}
use Rattle.least_cost.specs.Shown.{piece_cost}
use Rattle.least_cost.proofs.conditions.piece_costs.Given as goal

-- the costs of those so far
abbrev pub invariant-loop-spot : goal.invariant-loop-spot
invariant-loop-spot l = l.costs.items ≡ map piece_cost (map at_of (take l.spot-index l.spots))
