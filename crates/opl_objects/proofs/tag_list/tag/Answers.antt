use Rattle.std.proofs.Common.{◌≡◌, true, is_some, sym, ◌∙◌}
use Rattle.opl_objects.proofs.ContentsCuts.{two_cuts}
use Rattle.opl_objects.proofs.ContentsTags.{bad_key, bad_value, second_sign}
use Rattle.std.proofs.lemmas.Result.{err_from_is_err_and}
use Rattle.opl_objects.proofs.tag_list.tag.Goals as goal

pub returns-in_err-key-clause-err : goal.returns-in_err-key-clause-err
returns-in_err-key-clause-err c =
    let p = err_from_is_err_and c.from_residual.result c.from_residual.ensures.1 in
    rw (p.1, p.2) (bad_key c.args.item.now c.at_first.result.0.now _ c.in_err-key.field-0.0 c.at_first.ensures.parts
    c.in_err-key.ensures.err)

pub returns-in_err-value-clause-err : goal.returns-in_err-value-clause-err
returns-in_err-value-clause-err c =
    let p = err_from_is_err_and c.from_residual-in_err-value.result c.from_residual-in_err-value.ensures.1 in
    let item = c.args.item.now in
    let key = c.at_first.result.0.now in
    let value = c.at_first-2.result.0.now in
    let cuts = two_cuts 61 item key value c.at_first.result.1 c.at_first-2.result.1 c.in-Some.behind
    c.at_first.ensures.parts c.in-Some.is c.at_first-2.ensures.parts in
    rw (p.1, p.2) (bad_value item key value _ _ c.in_err-value.field-0.0 cuts c.in_ok-key.ensures.ok
    c.in_err-value.ensures.err)

pub returns-then-is_some-clause-err : goal.returns-then-is_some-clause-err
returns-then-is_some-clause-err c =
    let item = c.args.item.now in
    let key = c.at_first.result.0.now in
    let value = c.at_first-2.result.0.now in
    let cuts = two_cuts 61 item key value c.at_first.result.1 c.at_first-2.result.1 c.in-Some.behind
    c.at_first.ensures.parts c.in-Some.is c.at_first-2.ensures.parts in
    let some : is_some c.at_first-2.result.1 ≡ true = sym c.is_some.ensures ∙ c.if-is_some.true in
    second_sign item key value _ _ c.at_first-2.result.1 cuts c.in_ok-key.ensures.ok c.in_ok-value.ensures.ok some
