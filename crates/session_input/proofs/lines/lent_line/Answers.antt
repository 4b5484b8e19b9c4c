use Rattle.std.proofs.Common.{Some, sym, ap, ◌∙◌, subst}
use Rattle.std.specs.Str.{IsUtf8}
use Rattle.session_input.proofs.LineTexts.{text_there, text_missing}
use Rattle.session_input.proofs.lines.lent_line.Goals as goal

pub returns-in_default : goal.returns-in_default
returns-in_default c = sym (text_missing c.args.line.now
    (λ utf8. c.in_default.ensures.cases.0 (subst IsUtf8 (sym c.without_return.ensures) utf8)))

pub returns : goal.returns
returns c =
    let text = c.in-Ok.ensures.cases in
    ap Some (text.0 ∙ c.without_return.ensures)
    ∙ sym (text_there c.args.line.now (subst IsUtf8 c.without_return.ensures text.1))
