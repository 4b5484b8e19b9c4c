use Rattle.std.proofs.lemmas.Result.{err_from_is_err_and}
use Rattle.road_model.specs.declared.lists.PieceName.{PieceName}
use Rattle.spelled_bytes.proofs.Fronts.{malformed_weaker}
use Rattle.graph_file.proofs.parts.PieceNameSpellGraphFile.read.Goals as goal

pub returns-in_err-way-clause-malformed : goal.returns-in_err-way-clause-malformed
returns-in_err-way-clause-malformed g c =
    let p = err_from_is_err_and c.from_residual.result c.from_residual.ensures.1 in
    rw (p.1, p.2) (malformed_weaker c.in_err-way.field-0.0
    (λ none (x : PieceName) r whole. none (x.way.0, (x.index, x.dir)) r
    (record { fits = (whole.fits.0, (whole.fits.1, tt)); parts = whole.parts })) c.in_err-way.ensures.malformed)
