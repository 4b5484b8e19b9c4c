use Rattle.std.proofs.lemmas.Result.{err_from_is_err_and}
use Rattle.graph_file.specs.declared.extent.Extent.{Extent}
use Rattle.graph_file.specs.OneSpelling.{extent_fits, parts_of}
use Rattle.spelled_bytes.proofs.Fronts.{malformed_weaker}
use Rattle.graph_file.proofs.extent.ExtentSpellGraphFile.read.Goals as goal

pub returns-in_err-index-clause-malformed : goal.returns-in_err-index-clause-malformed
returns-in_err-index-clause-malformed g c =
    let p = err_from_is_err_and c.from_residual.result c.from_residual.ensures.1 in
    rw (p.1, p.2) (malformed_weaker c.in_err-index.field-0.0
    (λ none (x : Extent) r whole. none (parts_of x) r
    (record { fits = extent_fits g.G.Grammar.sourced x whole.fits; parts = whole.parts }))
    c.in_err-index.ensures.malformed)
