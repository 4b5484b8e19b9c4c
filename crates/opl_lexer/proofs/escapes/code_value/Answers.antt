use Rattle.std.proofs.Common.{◌≡◌, ◌==◌, false, slice_index, sym, ◌∙◌}
use Rattle.opl_lexer.proofs.Codes.{code_read}
use Rattle.opl_lexer.proofs.escapes.code_value.Goals as goal

pub returns : goal.returns
returns c =
    let code = c.args.code.now in
    let plus : (slice_index code 0 == 43) ≡ false = rw c.as_bytes.ensures.value at
    (sym c.has_plus.ensures ∙ c.if-has_plus.false) in
    rw c.ok.ensures.value (code_read code c.from_str_radix.result c.if-code-gt-MOST_DIGITS.false plus
    c.from_str_radix.ensures.value)
