use Rattle.std.proofs.Common.{◌≡◌, ℤ, Bool, false, FitsSigned, sym, ap, ◌∙◌}
use Rattle.std.specs.Int.{w32, cast_signed, cast_unsigned}
use Rattle.std.proofs.lemmas.Int.{to_z-of_z}
use Rattle.std.proofs.lemmas.Result.{err_from_is_err_and}
use Rattle.road_base.specs.Bytes.{i32_bytes}
use Rattle.road_base.specs.Ranges.{is_in_range}
use Rattle.road_base.specs.declared.location.Location.{Location}
use Rattle.spelled_bytes.specs.Spelling.{pair_bytes, PairFits}
use Rattle.spelled_bytes.specs.OneSpelling.{pair_one, i32_one}
use Rattle.spelled_bytes.proofs.Fronts.{malformed_weaker, form_missing, value_refused}
use Rattle.spelled_bytes.proofs.locations.LocationSpell.read.Goals as goal

pub returns-in_err-lon-clause-malformed : goal.returns-in_err-lon-clause-malformed
returns-in_err-lon-clause-malformed g c =
    let p = err_from_is_err_and c.from_residual.result c.from_residual.ensures.1 in
    rw (p.1, p.2) (malformed_weaker c.in_err-lon.field-0.0
    (form_missing (λ (x : Location). (x.lon, x.lat)) (pair_bytes i32_bytes i32_bytes)
    (PairFits (FitsSigned w32) (FitsSigned w32)) c.args.bytes.now) c.in_err-lon.ensures.malformed)

-- what was tested is what was read
out_of_range : (lon lat : ℤ) (answer : Bool) → FitsSigned w32 lon → FitsSigned w32 lat
    → answer ≡ is_in_range (cast_signed w32 (cast_unsigned w32 lon)) (cast_signed w32 (cast_unsigned w32 lat))
    → answer ≡ false → is_in_range lon lat ≡ false
out_of_range lon lat answer lon_fits lat_fits is refused =
    sym (ap (λ z. is_in_range z (cast_signed w32 (cast_unsigned w32 lat))) (to_z-of_z w32 lon lon_fits)
    ∙ ap (is_in_range lon) (to_z-of_z w32 lat lat_fits)) ∙ sym is ∙ refused

abbrev pair_in_range : ℤ × ℤ → Bool
pair_in_range p = is_in_range p.0 p.1

pub returns-then-not-is_in_range-clause-malformed : goal.returns-then-not-is_in_range-clause-malformed
returns-then-not-is_in_range-clause-malformed g c = λ l r whole.
    let read = c.in_ok-lon.ensures.found in
    let refused = out_of_range c.in_ok-lon.lon c.in_ok-lon.lat c.is_in_range.result read.fits.0 read.fits.1
    c.is_in_range.ensures c.if-not-is_in_range.true in
    value_refused (pair_bytes i32_bytes i32_bytes) (PairFits (FitsSigned w32) (FitsSigned w32))
    (pair_one i32_bytes (FitsSigned w32) i32_bytes (FitsSigned w32) i32_one i32_one) pair_in_range c.args.bytes.now
    (c.in_ok-lon.lon, c.in_ok-lon.lat) c.in_ok-lon.rest.now read refused (l.lon, l.lat) r
    (record { fits = whole.fits; parts = whole.parts }) l.in_range
