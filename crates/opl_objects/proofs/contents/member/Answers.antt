use Rattle.std.proofs.Common.{sym, ◌∙◌, ap, Some, refl}
use Rattle.opl_lexer.specs.Contents.{text_of, member_with, member_of}
use Rattle.opl_objects.proofs.ContentsFaults.{bad_through}
use Rattle.opl_objects.proofs.ContentsMembers.{member_cut, member_uncut}
use Rattle.std.proofs.lemmas.Result.{err_from_is_err_and}
use Rattle.opl_objects.proofs.contents.member.Goals as goal

pub returns-in_default-clause-err : goal.returns-in_default-clause-err
returns-in_default-clause-err c = member_uncut c.args.item.now (rw c.in_default.is at c.at_first.ensures.lacks)

pub returns-in_default-key-clause-err : goal.returns-in_default-key-clause-err
returns-in_default-key-clause-err c =
    let cut = member_cut c.args.item.now c.at_first.result.0.now c.in-Some.role.now
    (rw c.in-Some.is at c.at_first.ensures.cut) in
    cut ∙ ap (λ k. member_with k (text_of c.in-Some.role.now)) (sym c.in_default-key.ensures)

pub returns-clause-ok : goal.returns-clause-ok
returns-clause-ok c =
    let cut = member_cut c.args.item.now c.at_first.result.0.now c.in-Some.role.now
    (rw c.in-Some.is at c.at_first.ensures.cut) in
    cut ∙ (ap (λ k. member_with k (text_of c.in-Some.role.now)) (sym c.in-Some-key.ensures)
    ∙ ap (member_with (Some c.in-Some-key.item)) c.in_ok-role.ensures.ok)

pub returns-in_err-role-clause-err : goal.returns-in_err-role-clause-err
returns-in_err-role-clause-err c =
    let p = err_from_is_err_and c.from_residual.result c.from_residual.ensures.1 in
    let role = c.in-Some.role.now in
    let cut = member_cut c.args.item.now c.at_first.result.0.now role (rw c.in-Some.is at c.at_first.ensures.cut) in
    let whole = cut ∙ ap (λ k. member_with k (text_of role)) (sym c.in-Some-key.ensures) in
    rw (p.1, p.2) (bad_through (member_with (Some c.in-Some-key.item)) (text_of role) (member_of c.args.item.now)
    c.in_err-role.field-0.0 (λ kind. refl) whole c.in_err-role.ensures.err)
