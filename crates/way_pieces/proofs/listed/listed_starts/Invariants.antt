use Rattle.std.proofs.Common.{◌≡◌, take, filter_map}
use Rattle.way_pieces.specs.Listed.{listed_start}
use Rattle.way_pieces.proofs.listed.listed_starts.Given as goal

-- the starts so far
abbrev pub invariant-loop-piece : goal.invariant-loop-piece
invariant-loop-piece l = l.starts.items ≡ filter_map listed_start (take l.piece-index l.pieces)
