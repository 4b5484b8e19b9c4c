use Rattle.std.proofs.Common.{◌≢◌, Contains, take}
use Rattle.way_pieces.specs.declared.spans.PieceSpan.{PieceSpan}
use Rattle.way_pieces.proofs.spelling.span_named.Given as goal

-- none of the spans so far has the name
abbrev pub invariant-loop-span : goal.invariant-loop-span
invariant-loop-span l = (s : PieceSpan) → Contains (take l.span-index l.spans) s → s.name ≢ l.name
