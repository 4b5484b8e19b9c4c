-- One piece more was looked at.
use Rattle.std.proofs.Common.{◌≡◌, append-nil, [], ◌∷◌, ◌++◌, Some, None, ap, sym, ◌∙◌}
use Rattle.way_pieces.specs.Listed.{stop_along, listed_stop}
use Rattle.way_pieces.proofs.KeptLists.{kept_more}
use Rattle.way_pieces.proofs.listed.listed_stops.Goals as goal
use Rattle.way_pieces.proofs.listed.listed_stops.Goals.{in-Some+in_ok-push, in_default}

pub loop-piece-preserved : goal.loop-piece-preserved
loop-piece-preserved c =
    let pieces = c.args.pieces.now in
    let i = c.loop-piece.piece-index in
    let e = c.piece-item.result in
    let read : c.stop_along.result ≡ listed_stop e =
    c.stop_along.ensures ∙ (λ x. stop_along (c.listed_span.ensures x) (c.items.ensures x)) in
    elim c.match-stop_along.branch [
      | in-Some+in_ok-push w ↦ rw w.stops-is
          (w.in_ok-push.ensures.items
          ∙ ap (λ l. l ++ w.in-Some.stop ∷ []) c.loop-piece.invariant
          ∙ sym (kept_more listed_stop pieces i e (Some w.in-Some.stop) c.loop-piece-test.true c.piece-item.is
          (sym read ∙ w.in-Some.is)))
      | in_default w ↦ rw w.stops-is
          (c.loop-piece.invariant ∙ sym (append-nil _)
          ∙ sym (kept_more listed_stop pieces i e None c.loop-piece-test.true c.piece-item.is
          (sym read ∙ w.in_default.is)))
    ]
