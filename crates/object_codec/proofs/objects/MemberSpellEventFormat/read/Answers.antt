use Rattle.std.proofs.lemmas.Result.{err_from_is_err_and}
use Rattle.road_base.specs.declared.objects.Member.{Member}
use Rattle.spelled_bytes.specs.Spelling.{pair_bytes, PairFits}
use Rattle.object_codec.specs.Spelling.{member_bytes, key_bytes, text_bytes, MemberFits, KeyFits, TextFits}
use Rattle.spelled_bytes.proofs.Fronts.{malformed_weaker, form_missing}
use Rattle.object_codec.proofs.objects.MemberSpellEventFormat.read.Goals as goal

pub returns-in_err-item-clause-malformed : goal.returns-in_err-item-clause-malformed
unfolding member_bytes MemberFits
returns-in_err-item-clause-malformed c =
    let p = err_from_is_err_and c.from_residual.result c.from_residual.ensures.1 in
    rw (p.1, p.2) (malformed_weaker c.in_err-item.field-0.0
    (form_missing (λ (x : Member). (x.item, x.role)) (pair_bytes key_bytes text_bytes) (PairFits KeyFits TextFits)
    c.args.bytes.now) c.in_err-item.ensures.malformed)
