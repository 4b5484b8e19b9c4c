use Rattle.std.proofs.Common.{Err, sym, ◌∙◌, arith}
use Rattle.std.proofs.lemmas.Result.{err_from_is_err_and}
use Rattle.road_io.proofs.ToldCalls.{told_same, told_weaker}
use Rattle.sequence_journal.specs.declared.error.JournalError.TheVariants.{Damaged}
use Rattle.sequence_journal.specs.Reading.{ReadsBase}
use Rattle.sequence_journal.proofs.ReadSoFar.{read_error, base_profile, base_unread, base_cut_short, base_no_memory}
use Rattle.sequence_journal.proofs.ReadSoFar.{base_spells_nothing, base_read}
use Rattle.sequence_journal.proofs.whole_file.read_base.Goals as goal

pub returns-then-not-is_profile-clause-told : goal.returns-then-not-is_profile-clause-told
returns-then-not-is_profile-clause-told g c = told_same (g.W.Site.outside c.args.site.now)
    (ReadsBase c.args.file c.args.found (Err (Damaged c.args.file 0)))
    (λ w. base_profile c.args.file c.args.found w (sym c.is_profile.ensures ∙ c.if-not-is_profile.true))

pub returns-in_err-show-clause-told : goal.returns-in_err-show-clause-told
returns-in_err-show-clause-told g c =
    let p = err_from_is_err_and c.from_residual.result c.from_residual.ensures.1 in
    rw (p.1, p.2) (told_weaker _ _ _ _ c.in_err-show.ensures.told
    (base_unread c.args.file c.args.found c.show.new.self c.in_err-show.field-0.0))

pub returns-in_err-show-clause-named : goal.returns-in_err-show-clause-named
returns-in_err-show-clause-named g c =
    let p = err_from_is_err_and c.from_residual.result c.from_residual.ensures.1 in
    rw (p.1, p.2) (read_error c.args.file c.in_err-show.field-0.0 c.in_err-show.ensures.named)

pub returns-then-shown-size-clause-told : goal.returns-then-shown-size-clause-told
returns-then-shown-size-clause-told g c = told_weaker _ _ _ _ c.in_ok-show.ensures.told
    (λ w v shows. base_cut_short c.args.file c.args.found c.show.new.self c.front-bytes.result.now
    c.in_ok-show.field-0 w v
    c.front-bytes.ensures shows (omega (arith, c.if-shown-size.true)))

pub returns-in_err-events-clause-told : goal.returns-in_err-events-clause-told
returns-in_err-events-clause-told g c =
    let p = err_from_is_err_and c.from_residual-in_err-events.result c.from_residual-in_err-events.ensures.1 in
    rw (p.1, p.2) (told_weaker _ _ _ _ c.in_ok-show.ensures.told
    (λ w v shows. base_no_memory c.args.file c.args.found c.show.new.self c.front-bytes.result.now
    c.in_ok-show.field-0 w v
    c.front-bytes.ensures shows))

pub returns-in_default-clause-told : goal.returns-in_default-clause-told
returns-in_default-clause-told g c = told_weaker _ _ _ _ c.in_ok-show.ensures.told
    (λ w v shows. base_spells_nothing c.args.file c.args.found c.show.new.self c.front-bytes.result.now
    c.in_ok-show.field-0 w v c.front-bytes.ensures shows (omega (arith, c.if-shown-size.false))
    (rw c.in_default.is at c.in_ok-events.ensures.none))

pub returns-clause-told : goal.returns-clause-told
returns-clause-told g c = told_weaker _ _ _ _ c.in_ok-show.ensures.told
    (λ w v shows. base_read c.args.file c.args.found c.show.new.self c.front-bytes.result.now
    c.in_ok-show.field-0 w v c.front-bytes.ensures shows (omega (arith, c.if-shown-size.false))
    c.in-Some.events (sym c.is_profile.ensures ∙ c.if-not-is_profile.false) (rw c.in-Some.is at
    c.in_ok-events.ensures.found)
    (rw c.in-Some.is at c.in_ok-events.ensures.spelled))
