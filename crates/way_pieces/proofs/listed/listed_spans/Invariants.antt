use Rattle.std.proofs.Common.{◌≡◌, map, take}
use Rattle.way_pieces.specs.Listed.{listed_span}
use Rattle.way_pieces.proofs.listed.listed_spans.Given as goal

-- the spans so far
abbrev pub invariant-loop-piece : goal.invariant-loop-piece
invariant-loop-piece l = l.spans.items ≡ map listed_span (take l.piece-index l.pieces)
