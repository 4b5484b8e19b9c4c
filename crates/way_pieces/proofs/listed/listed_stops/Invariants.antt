use Rattle.std.proofs.Common.{◌≡◌, take, filter_map}
use Rattle.way_pieces.specs.Listed.{listed_stop}
use Rattle.way_pieces.proofs.listed.listed_stops.Given as goal

-- the ends so far
abbrev pub invariant-loop-piece : goal.invariant-loop-piece
invariant-loop-piece l = l.stops.items ≡ filter_map listed_stop (take l.piece-index l.pieces)
