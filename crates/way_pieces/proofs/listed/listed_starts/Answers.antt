-- One piece more was looked at.
use Rattle.std.proofs.Common.{◌≡◌, append-nil, [], ◌∷◌, ◌++◌, Some, None, ap, sym, ◌∙◌}
use Rattle.way_pieces.specs.Listed.{start_along, listed_start}
use Rattle.way_pieces.proofs.KeptLists.{kept_more}
use Rattle.way_pieces.proofs.listed.listed_starts.Goals as goal
use Rattle.way_pieces.proofs.listed.listed_starts.Goals.{in-Some+in_ok-push, in_default}

pub loop-piece-preserved : goal.loop-piece-preserved
loop-piece-preserved c =
    let pieces = c.args.pieces.now in
    let i = c.loop-piece.piece-index in
    let e = c.piece-item.result in
    let read : c.start_along.result ≡ listed_start e =
    c.start_along.ensures ∙ (λ x. start_along (c.listed_span.ensures x) (c.items.ensures x)) in
    elim c.match-start_along.branch [
      | in-Some+in_ok-push w ↦ rw w.starts-is
          (w.in_ok-push.ensures.items
          ∙ ap (λ l. l ++ w.in-Some.start ∷ []) c.loop-piece.invariant
          ∙ sym (kept_more listed_start pieces i e (Some w.in-Some.start) c.loop-piece-test.true c.piece-item.is
          (sym read ∙ w.in-Some.is)))
      | in_default w ↦ rw w.starts-is
          (c.loop-piece.invariant ∙ sym (append-nil _)
          ∙ sym (kept_more listed_start pieces i e None c.loop-piece-test.true c.piece-item.is
          (sym read ∙ w.in_default.is)))
    ]
