use Rattle.std.proofs.Common.{◌≡◌, true, IsTrue}
use lib.Utf8.{scalar}
use Rattle.std.specs.Str.Parse.{digits_value}
use Rattle.opl_lexer.specs.Escapes.{is_code}
use Rattle.opl_lexer.proofs.Decimals.{SomeIff-change}
use Rattle.opl_lexer.proofs.Codes.{code_parts, code_from_parts}
use Rattle.opl_lexer.proofs.escapes.character.Goals as goal

pub returns-in_default : goal.returns-in_default
returns-in_default c = λ code. c.in_default.ensures (code_parts c.args.code.now code).0

pub returns : goal.returns
returns c =
    let code = c.args.code.now in
    let read = rw c.in-Some.is at c.code_value.ensures in
    SomeIff-change c.from_u32.result (scalar c.in-Some.value ≡ true) (IsTrue (is_code code)) c.in-Some.value
    (digits_value 16 code) c.from_u32.ensures.value
    (λ s. code_from_parts code read.0 (rw read.1 at s))
    (λ e. rw read.1 (code_parts code e).1)
    read.1
