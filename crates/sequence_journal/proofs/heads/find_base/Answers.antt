use Rattle.std.proofs.Common.{rules, take, arith, Some, None}
use Rattle.road_io.proofs.ToldCalls.{told_then, told_weaker}
use Rattle.sequence_journal.proofs.FoundParts.{head_missing, head_short, head_there}
use Rattle.sequence_journal.proofs.PartAnswers.{base_no_len, base_no_front, base_told}
use Rattle.sequence_journal.proofs.heads.find_base.Goals as goal

pub returns-in_err-len-clause-told : goal.returns-in_err-len-clause-told
returns-in_err-len-clause-told g c = told_weaker _ _ _ _ c.in_err-len.ensures.told
    (λ w u t. base_no_len c.args.file c.from_residual.result c.in_err-len.field-0.0 w u c.from_residual.ensures.0 t)

pub returns-in_err-n-clause-told : goal.returns-in_err-n-clause-told
returns-in_err-n-clause-told g c = told_then _ _ _ _ _ _ c.in_ok-len.ensures.told c.in_err-n.ensures.told
    (λ w u v t f. base_no_front c.args.file c.from_residual-in_err-n.result c.in_ok-len.len c.fill.new.buf
    c.in_err-n.field-0.0 w u v c.from_residual-in_err-n.ensures.0 t f)

pub returns-in_default-clause-told : goal.returns-in_default-clause-told
returns-in_default-clause-told g c = told_then _ _ _ _ _ _ c.in_ok-len.ensures.told c.in_ok-n.ensures.told
    (λ w u v t f. base_told c.args.file c.in_ok-len.len c.in_ok-n.n c.fill.new.buf None w u v (search rules)
    (λ reads size is. head_missing reads (take c.in_ok-n.n c.fill.new.buf) is c.in_default.ensures.none) t f)

pub returns-then-not-reaches-clause-told : goal.returns-then-not-reaches-clause-told
returns-then-not-reaches-clause-told g c = told_then _ _ _ _ _ _ c.in_ok-len.ensures.told c.in_ok-n.ensures.told
    (λ w u v t f. base_told c.args.file c.in_ok-len.len c.in_ok-n.n c.fill.new.buf None w u v (search rules)
    (λ reads size is. head_short reads (take c.in_ok-n.n c.fill.new.buf) c.in-Some.field-0-1.now
    c.in-Some.head.profile
    c.in-Some.head.generation c.in-Some.head.number c.in-Some.head.size is c.in-Some.ensures.fits
    c.in-Some.ensures.found
    (omega (arith, size, c.reaches.ensures.no c.if-not-reaches.true))) t f)

pub returns-clause-told : goal.returns-clause-told
returns-clause-told g c = told_then _ _ _ _ _ _ c.in_ok-len.ensures.told c.in_ok-n.ensures.told
    (λ w u v t f. base_told c.args.file c.in_ok-len.len c.in_ok-n.n c.fill.new.buf
    (Some (record { len = c.in_ok-len.len; head = c.in-Some.head })) w u v (search rules)
    (λ reads size is. head_there reads (take c.in_ok-n.n c.fill.new.buf) c.in-Some.field-0-1.now
    c.in-Some.head.profile
    c.in-Some.head.generation c.in-Some.head.number c.in-Some.head.size is c.in-Some.ensures.fits
    c.in-Some.ensures.found
    c.in_ok-len.len size (omega (arith, c.reaches.ensures.yes c.if-not-reaches.false))) t f)
