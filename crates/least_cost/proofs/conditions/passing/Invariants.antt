use Rattle.std.proofs.Common.{◌≡◌, map, take}
use Rattle.context_search.specs.Marks.{at_of}
use Rattle.least_cost.specs.LastPieces.{is_passed}
use Rattle.least_cost.proofs.conditions.passing.Given as goal

-- the marks of those so far
abbrev pub invariant-loop-spot : goal.invariant-loop-spot
invariant-loop-spot l = l.marks.items ≡ map (is_passed l.node) (map at_of (take l.spot-index l.spots))
