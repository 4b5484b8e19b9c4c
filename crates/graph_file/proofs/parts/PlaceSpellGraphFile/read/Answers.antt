use Rattle.std.proofs.lemmas.Result.{err_from_is_err_and}
use Rattle.road_model.specs.declared.lists.Place.{Place}
use Rattle.graph_file.specs.OneSpelling.{location_fits}
use Rattle.spelled_bytes.proofs.Fronts.{malformed_weaker}
use Rattle.graph_file.proofs.parts.PlaceSpellGraphFile.read.Goals as goal

pub returns-in_err-node-clause-malformed : goal.returns-in_err-node-clause-malformed
returns-in_err-node-clause-malformed g c =
    let p = err_from_is_err_and c.from_residual.result c.from_residual.ensures.1 in
    rw (p.1, p.2) (malformed_weaker c.in_err-node.field-0.0
    (λ none (x : Place) r whole. none (x.node.0, x.location) r
    (record { fits = (whole.fits, location_fits x.location); parts = whole.parts })) c.in_err-node.ensures.malformed)
