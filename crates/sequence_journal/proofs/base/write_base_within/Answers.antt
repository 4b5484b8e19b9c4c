use Rattle.std.proofs.Common.{Err, arith, refl}
use Rattle.std.proofs.lemmas.Result.{err_from_is_err_and}
use Rattle.road_io.proofs.ToldCalls.{told_same, told_weaker}
use Rattle.sequence_journal.specs.Basing.{WritesWithin, base_alone}
use Rattle.sequence_journal.proofs.WrittenBase.{base_chunk, within_failed, base_written, within_unspelled}
use Rattle.sequence_journal.proofs.base.write_base_within.Goals as goal

pub returns-in_err-chunk-clause-told : goal.returns-in_err-chunk-clause-told
returns-in_err-chunk-clause-told g c =
    let p = err_from_is_err_and c.from_residual.result c.from_residual.ensures.1 in
    let h = base_alone c.args.profile c.args.base.0 c.args.events.now in
    rw p.1 (told_same (g.W.Site.outside c.args.site.now) (WritesWithin c.args.file c.args.generation h (Err p.0))
    (within_unspelled c.args.file c.args.generation h p.0 p.2))

pub returns-in_err-replace-clause-told : goal.returns-in_err-replace-clause-told
returns-in_err-replace-clause-told g c =
    let p = err_from_is_err_and c.from_residual-in_err-replace.result c.from_residual-in_err-replace.ensures.1 in
    let of = c.in_ok-chunk.ensures in
    let is = base_chunk c.args.profile c.args.generation c.args.base.0 c.args.events.now c.in_ok-chunk.chunk.items
    c.requires.known of.bytes of.generation_fits of.number_fits of.fit in
    rw p.1 (told_weaker _ _ _ _ c.in_err-replace.ensures.told
    (λ w v. within_failed c.args.profile c.args.generation c.args.base.0 c.args.events.now c.in_ok-chunk.chunk.items is
    c.args.file c.deref.result.now c.deref.ensures.value w v p.0 c.in_err-replace.field-0.0 p.2))

pub returns-clause-told : goal.returns-clause-told
returns-clause-told g c =
    let of = c.in_ok-chunk.ensures in
    let is = base_chunk c.args.profile c.args.generation c.args.base.0 c.args.events.now c.in_ok-chunk.chunk.items
    c.requires.known of.bytes of.generation_fits of.number_fits of.fit in
    told_weaker _ _ _ _ c.in_ok-replace.ensures.told
    (λ w v. base_written c.args.profile c.args.generation c.args.base.0 c.args.events.now c.in_ok-chunk.chunk.items is
    c.args.file c.deref.result.now c.deref.ensures.value w v c.in_ok-replace.field-0 c.len-size.result c.args.base
    (omega (arith, c.len-size.ensures)) refl)
