use Rattle.std.proofs.Common.{arith}
use Rattle.std.proofs.lemmas.Result.{err_from_is_err_and}
use Rattle.road_io.proofs.ToldCalls.{told_then, told_weaker}
use Rattle.sequence_journal.proofs.FoundParts.{fields_missing, fields_short}
use Rattle.sequence_journal.proofs.PartAnswers.{record_unshown, record_closed, record_unread, record_cut_short}
use Rattle.sequence_journal.proofs.PartAnswers.{record_read}
use Rattle.sequence_journal.proofs.records.open_record.Goals as goal

pub returns-in_err-show-clause-told : goal.returns-in_err-show-clause-told
returns-in_err-show-clause-told g c =
    let p = err_from_is_err_and c.from_residual.result c.from_residual.ensures.1 in
    rw (p.1, p.2) (told_weaker _ _ _ _ c.in_err-show.ensures.told
    (record_unshown c.args.file c.args.len c.args.gate c.show.new.self c.show.new.self c.in_err-show.field-0.0))

pub returns-in_default-clause-told : goal.returns-in_default-clause-told
returns-in_default-clause-told g c = told_weaker _ _ _ _ c.in_ok-show.ensures.told
    (λ w v shows. record_closed c.args.file c.args.len c.args.gate c.show.new.self c.show.new.self c.front.result.now
    c.in_ok-show.field-0 w v c.front.ensures
    (λ bytes is size. fields_missing bytes c.front.result.now is c.in_default.ensures.none) shows)

pub returns-then-not-reaches-clause-told : goal.returns-then-not-reaches-clause-told
returns-then-not-reaches-clause-told g c = told_weaker _ _ _ _ c.in_ok-show.ensures.told
    (λ w v shows. record_closed c.args.file c.args.len c.args.gate c.show.new.self c.show.new.self c.front.result.now
    c.in_ok-show.field-0 w v c.front.ensures
    (λ bytes is size. fields_short bytes c.front.result.now c.in-Some.field-0-1.now c.in-Some.fields.number
    c.in-Some.fields.size is c.in-Some.ensures.number_fits c.in-Some.ensures.size_fits c.in-Some.ensures.found
    (omega (arith, size, c.reaches.ensures.no c.if-not-reaches.true))) shows)

pub returns-in_err-show-2-clause-told : goal.returns-in_err-show-2-clause-told
returns-in_err-show-2-clause-told g c =
    let p = err_from_is_err_and c.from_residual-in_err-show-2.result c.from_residual-in_err-show-2.ensures.1 in
    rw (p.1, p.2) (told_then _ _ _ _ _ _ c.in_ok-show.ensures.told c.in_err-show-2.ensures.told
    (λ w u v first shows. record_unread c.args.file c.args.len c.args.gate c.show.new.self c.show-2.new.self
    c.front.result.now c.in-Some.field-0-1.now c.in-Some.fields.number c.in-Some.fields.size c.in_ok-show.field-0 w u
    v
    c.front.ensures c.requires.within (c.reaches.ensures.yes c.if-not-reaches.false) c.in-Some.ensures.number_fits
    c.in-Some.ensures.size_fits c.in-Some.ensures.found first c.in_err-show-2.field-0.0 shows))

pub returns-then-shown-whole-clause-told : goal.returns-then-shown-whole-clause-told
returns-then-shown-whole-clause-told g c = told_then _ _ _ _ _ _ c.in_ok-show.ensures.told c.in_ok-show-2.ensures.told
    (λ w u v first shows. record_cut_short c.args.file c.args.len c.args.gate c.show.new.self c.show-2.new.self
    c.front.result.now c.in-Some.field-0-1.now c.in-Some.fields.number c.in-Some.fields.size c.in_ok-show.field-0 w u
    v
    c.front.ensures c.requires.within (c.reaches.ensures.yes c.if-not-reaches.false) c.in-Some.ensures.number_fits
    c.in-Some.ensures.size_fits c.in-Some.ensures.found first c.in_ok-show-2.field-0 c.in_ok-show-2.ensures.before
    shows
    c.front-shown.result.now c.front-shown.ensures (omega (arith, c.if-shown-whole.true)))

pub returns-clause-told : goal.returns-clause-told
returns-clause-told g c = told_then _ _ _ _ _ _ c.in_ok-show.ensures.told c.in_ok-show-2.ensures.told
    (λ w u v first shows. record_read c.args.file c.args.len c.args.gate c.show.new.self c.show-2.new.self
    c.front.result.now c.in-Some.field-0-1.now c.in-Some.fields.number c.in-Some.fields.size c.in_ok-show.field-0 w u
    v
    c.front.ensures c.requires.within (c.reaches.ensures.yes c.if-not-reaches.false) c.in-Some.ensures.number_fits
    c.in-Some.ensures.size_fits c.in-Some.ensures.found first c.in_ok-show-2.field-0 c.in_ok-show-2.ensures.before
    shows)

pub returns-clause-lies_within : goal.returns-clause-lies_within
returns-clause-lies_within g c = omega (arith, c.reaches.ensures.yes c.if-not-reaches.false, c.requires.within)
