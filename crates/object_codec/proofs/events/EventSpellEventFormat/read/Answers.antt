use Rattle.std.proofs.Common.{◌++◌, ◌<◌, ◌^◌, ◌∙◌, append_assoc}
use Rattle.std.proofs.lemmas.Result.{err_from_is_err_and}
use Rattle.road_base.specs.Bytes.{u32_bytes}
use Rattle.spelled_bytes.specs.Spelling.{pair_bytes, PairFits}
use Rattle.object_codec.specs.Spelling.{key_bytes, body_bytes, event_bytes, KeyFits, EventFits, IsBodyOf}
use Rattle.spelled_bytes.specs.OneSpelling.{pair_one, u32_one}
use Rattle.object_codec.specs.OneSpelling.{key_one}
use Rattle.spelled_bytes.proofs.Fronts.{malformed_weaker, second_missing, both_begin}
use Rattle.object_codec.proofs.events.EventSpellEventFormat.read.Goals as goal

pub returns-in_err-key-clause-malformed : goal.returns-in_err-key-clause-malformed
unfolding event_bytes EventFits IsBodyOf
returns-in_err-key-clause-malformed c =
    let p = err_from_is_err_and c.from_residual.result c.from_residual.ensures.1 in
    rw (p.1, p.2) (malformed_weaker c.in_err-key.field-0.0
    (λ none e r whole. none (e.key, e.version) (body_bytes e.body ++ r)
    (record {
      fits = whole.fits.0;
      parts = whole.parts
          ∙ append_assoc (key_bytes e.key ++ u32_bytes e.version) (body_bytes e.body) r;
    }))
    c.in_err-key.ensures.malformed)

pub returns-in_err-body-clause-malformed : goal.returns-in_err-body-clause-malformed
unfolding event_bytes EventFits IsBodyOf
returns-in_err-body-clause-malformed c =
    let p = err_from_is_err_and c.from_residual-in_err-body.result c.from_residual-in_err-body.ensures.1 in
    rw (p.1, p.2) (malformed_weaker c.in_err-body.field-0.0
    (λ none e r whole. second_missing (pair_bytes key_bytes u32_bytes) (PairFits KeyFits (λ n. n < 2 ^ 32))
    body_bytes (λ x. IsBodyOf x.0) (pair_one key_bytes KeyFits u32_bytes (λ n. n < 2 ^ 32) key_one u32_one)
    c.args.bytes.now (c.in_ok-key.key, c.in_ok-key.version) c.in_ok-key.rest.now c.in_ok-key.ensures.found none
    (e.key, e.version) e.body r (record {
      first = whole.fits.0;
      second = (e.kind, whole.fits.1);
      parts = whole.parts
          ∙ append_assoc (key_bytes e.key ++ u32_bytes e.version) (body_bytes e.body) r;
    }))
    c.in_err-body.ensures.malformed)

pub invariant_of-result : goal.invariant_of-result
unfolding event_bytes EventFits IsBodyOf
invariant_of-result c = record { kind = c.in_ok-body.ensures.found.fits.0 }

pub returns-clause-found : goal.returns-clause-found
unfolding event_bytes EventFits IsBodyOf
returns-clause-found c = record {
  fits = (c.in_ok-key.ensures.found.fits, c.in_ok-body.ensures.found.fits.1);
  parts = both_begin (pair_bytes key_bytes u32_bytes) (PairFits KeyFits (λ n. n < 2 ^ 32)) body_bytes
      (IsBodyOf c.in_ok-key.key) c.args.bytes.now (c.in_ok-key.key, c.in_ok-key.version) c.in_ok-key.rest.now
      c.in_ok-body.body c.in_ok-body.rest.now c.in_ok-key.ensures.found c.in_ok-body.ensures.found;
}
