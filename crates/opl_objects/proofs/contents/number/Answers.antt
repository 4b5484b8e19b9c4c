use Rattle.std.proofs.Common.{◌≡◌, true, is_some, sym, ap, ◌∙◌}
use Rattle.opl_lexer.specs.Numbers.{whole_of}
use Rattle.opl_objects.proofs.ContentsNumbers.{number_alone}
use Rattle.opl_objects.proofs.contents.number.Goals as goal

pub returns-then-is_some : goal.returns-then-is_some
returns-then-is_some c =
    let some : is_some (whole_of c.args.text.now) ≡ true = ap is_some (sym c.whole-alone.ensures)
    ∙ (sym c.is_some.ensures ∙ c.if-is_some.true) in
    c.whole-alone.ensures ∙ sym (number_alone c.args.text.now some)
