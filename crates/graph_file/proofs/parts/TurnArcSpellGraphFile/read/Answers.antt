use Rattle.std.proofs.lemmas.Result.{err_from_is_err_and}
use Rattle.road_model.specs.declared.lists.TurnArc.{TurnArc}
use Rattle.spelled_bytes.proofs.Fronts.{malformed_weaker}
use Rattle.graph_file.proofs.parts.TurnArcSpellGraphFile.read.Goals as goal

pub returns-in_err-piece-clause-malformed : goal.returns-in_err-piece-clause-malformed
returns-in_err-piece-clause-malformed g c =
    let p = err_from_is_err_and c.from_residual.result c.from_residual.ensures.1 in
    rw (p.1, p.2) (malformed_weaker c.in_err-piece.field-0.0
    (λ none (x : TurnArc) r whole. none (x.piece, x.length) r
    (record { fits = whole.fits; parts = whole.parts })) c.in_err-piece.ensures.malformed)
