use Rattle.std.proofs.Common.{◌+◌, inl, inr, refl, arith}
use Rattle.std.proofs.lemmas.Result.{err_from_is_err_and}
use Rattle.road_io.proofs.ToldCalls.{told_weaker}
use Rattle.sequence_journal.specs.declared.whole_file.ReadHistory.{ReadHistory}
use Rattle.sequence_journal.proofs.ReadSoFar.{read_error, next_unread, next_closed, next_damaged, next_read}
use Rattle.sequence_journal.proofs.whole_file.read_next.Goals as goal

pub returns-in_err-fields-clause-told : goal.returns-in_err-fields-clause-told
returns-in_err-fields-clause-told g c =
    let p = err_from_is_err_and c.from_residual.result c.from_residual.ensures.1 in
    rw (p.1, p.2) (told_weaker _ _ _ _ c.in_err-fields.ensures.told
    (next_unread c.args.file c.open_record.new.window c.args.history.now c.in_err-fields.field-0.0))

pub returns-in_err-fields-clause-named : goal.returns-in_err-fields-clause-named
returns-in_err-fields-clause-named g c =
    let p = err_from_is_err_and c.from_residual.result c.from_residual.ensures.1 in
    rw (p.1, p.2) (read_error c.args.file c.in_err-fields.field-0.0 c.in_err-fields.ensures.named)

pub returns-in_default-clause-told : goal.returns-in_default-clause-told
returns-in_default-clause-told g c = told_weaker _ _ _ _ (rw c.in_default.is at c.in_ok-fields.ensures.told)
    (next_closed c.args.file c.open_record.new.window c.args.history.now)

pub returns-then-not-follows-clause-told : goal.returns-then-not-follows-clause-told
returns-then-not-follows-clause-told g c = told_weaker _ _ _ _ (rw c.in-Some.is at c.in_ok-fields.ensures.told)
    (λ w v read. next_damaged c.args.file c.open_record.new.window c.args.history.now c.in-Some.fields w v read
    (inl (c.follows.ensures.no c.if-not-follows.true)))

pub returns-in_default-2-clause-told : goal.returns-in_default-2-clause-told
returns-in_default-2-clause-told g c = told_weaker _ _ _ _ (rw c.in-Some.is at c.in_ok-fields.ensures.told)
    (λ w v read. next_damaged c.args.file c.open_record.new.window c.args.history.now c.in-Some.fields w v read
    (inr (rw (c.in_default-2.is, c.front-bytes.ensures) at c.in_ok-more.ensures.none)))

pub returns-clause-told : goal.returns-clause-told
returns-clause-told g c =
    let old = c.args.history.now in
    let new : ReadHistory = record {
      len = old.len;
      generation = old.generation;
      profile = old.profile;
      kept = c.in-Some.fields.number;
      gate = old.gate + 17 + c.in-Some.fields.size;
      events = c.append.new.self;
    } in
    told_weaker _ _ _ _ (rw c.in-Some.is at c.in_ok-fields.ensures.told)
    (λ w v read. next_read c.args.file c.open_record.new.window c.args.history.now c.in-Some.fields w v read new
    c.in-Some-2.more.items (c.follows.ensures.yes c.if-not-follows.false)
    (rw c.in-Some-2.is at c.in_ok-more.ensures.found)
    (rw (c.in-Some-2.is, c.front-bytes.ensures) at c.in_ok-more.ensures.spelled) refl refl refl refl (omega arith)
    c.in_ok-append.ensures.items)
