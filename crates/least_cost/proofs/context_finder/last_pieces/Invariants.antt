use Rattle.std.proofs.Common.{◌≡◌, map, take}
use Rattle.context_search.specs.Marks.{at_of}
use Rattle.least_cost.specs.LastPieces.{last_piece}
use Rattle.least_cost.proofs.context_finder.last_pieces.Given as goal

-- the last pieces of those so far
abbrev pub invariant-loop-spot : goal.invariant-loop-spot
invariant-loop-spot l = l.list.items ≡ map last_piece (map at_of (take l.spot-index l.spots))
