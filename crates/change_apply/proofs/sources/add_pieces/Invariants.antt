use Rattle.std.proofs.Common.{take}
use Rattle.change_apply.specs.Sourcing.{AreLed, ListArcTo}
use Rattle.change_apply.proofs.SourcedArcs.{AddsOnly, Keeps}
use Rattle.change_apply.proofs.sources.add_pieces.Given as goal

-- the arcs of the pieces so far that the others lack lead by pieces of the ways
abbrev pub invariant-loop-piece : goal.invariant-loop-piece
invariant-loop-piece l = record {
  keeps : Keeps l.fn.led.items l.led.items;
  only : AddsOnly l.fn.led.items l.led.items (ListArcTo l.pieces);
  led : AreLed (take l.piece-index l.pieces) l.others l.led.items;
}
