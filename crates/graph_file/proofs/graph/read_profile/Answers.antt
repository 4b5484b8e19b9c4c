use Rattle.std.proofs.Common.{sym, subst, ◌∙◌}
use Rattle.std.proofs.lemmas.Bool.{true≢false}
use Rattle.std.proofs.lemmas.Result.{err_from_is_err_and}
use Rattle.road_base.specs.Profiles.{IsProfile}
use Rattle.spelled_bytes.specs.OneSpelling.{u32_one}
use Rattle.spelled_bytes.proofs.Fronts.{malformed_weaker}
use Rattle.graph_file.proofs.GraphFiles.{profile_fits}
use Rattle.graph_file.proofs.graph.read_profile.Goals as goal

pub returns-in_err-number-clause-malformed : goal.returns-in_err-number-clause-malformed
returns-in_err-number-clause-malformed c =
    let p = err_from_is_err_and c.from_residual.result c.from_residual.ensures.1 in
    rw (p.1, p.2) (malformed_weaker c.in_err-number.field-0.0
    (λ none n rest begins. none n rest (record { fits = profile_fits n begins.fits; parts = begins.parts }))
    c.in_err-number.ensures.malformed)

pub returns-then-not-is_profile-clause-malformed : goal.returns-then-not-is_profile-clause-malformed
returns-then-not-is_profile-clause-malformed c = λ n rest begins.
    let same = u32_one c.in_ok-number.number n c.args.bytes.now c.in_ok-number.rest.now rest
    c.in_ok-number.ensures.found (record { fits = profile_fits n begins.fits; parts = begins.parts }) in
    true≢false (sym (subst IsProfile (sym same.0) begins.fits) ∙ sym c.is_profile.ensures ∙ c.if-not-is_profile.true)

pub returns-clause-found : goal.returns-clause-found
returns-clause-found c = record {
  fits = sym c.is_profile.ensures ∙ c.if-not-is_profile.false;
  parts = c.in_ok-number.ensures.found.parts;
}
