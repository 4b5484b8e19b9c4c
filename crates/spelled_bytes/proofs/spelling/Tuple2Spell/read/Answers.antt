-- Where nothing stands behind the first, both don't stand there.
use Rattle.std.proofs.Common.{◌∙◌, append_assoc}
use Rattle.std.proofs.lemmas.Result.{err_from_is_err_and}
use Rattle.spelled_bytes.proofs.Fronts.{malformed_weaker, second_missing}
use Rattle.spelled_bytes.proofs.spelling.Tuple2Spell.read.Goals as goal

pub returns-in_err-second-clause-malformed : goal.returns-in_err-second-clause-malformed
returns-in_err-second-clause-malformed g c =
    let p = err_from_is_err_and c.from_residual-in_err-second.result c.from_residual-in_err-second.ensures.1 in
    let f = g.A.Spell.spelling in
    let h = g.B.Spell.spelling in
    rw (p.1, p.2) (malformed_weaker c.in_err-second.field-0.0
    (λ none x r both. second_missing f g.A.Spell.fits h (λ _. g.B.Spell.fits) g.met.A.Spell.one c.args.bytes.now
    c.in_ok-first.first c.in_ok-first.rest.now c.in_ok-first.ensures.found none x.0 x.1 r
    (record { first = both.fits.0; second = both.fits.1; parts = both.parts ∙ append_assoc (f x.0) (h x.1) r }))
    c.in_err-second.ensures.malformed)
