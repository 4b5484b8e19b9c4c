-- The spans that are read are those of the way's pieces.
use Rattle.std.proofs.Common.{◌≡◌, List, map, sym, ap, subst, ◌∙◌}
use Rattle.way_pieces.specs.declared.spans.PieceSpan.{PieceSpan}
use Rattle.way_pieces.specs.Listed.{listed_span}
use Rattle.way_pieces.specs.RoadPieces.{AreSpans}
use Rattle.way_pieces.proofs.ListedPieces.{are_listed}
use Rattle.way_pieces.proofs.listed.spans_in.Goals as goal

pub returns : goal.returns
returns c = λ M P w lists.
    let read : c.in_ok-spans.spans.items ≡ map listed_span c.args.block.now.pieces =
    c.in_ok-spans.ensures ∙ ap (map listed_span) c.items.ensures in
    subst (λ (l : List PieceSpan). AreSpans M P w l) (sym read) (are_listed M P w c.args.block.now lists)
