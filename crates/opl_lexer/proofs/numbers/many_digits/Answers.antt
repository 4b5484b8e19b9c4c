use Rattle.std.proofs.Common.{arith, ◌<◌, ◌^◌, length}
use Rattle.std.specs.Str.Parse.{digits_value}
use Rattle.opl_lexer.proofs.DigitSteps.{HasRead-digit, HasRead-least, HasRead-end}
use Rattle.opl_lexer.proofs.numbers.many_digits.Goals as goal

-- no digit, or a number that is too large already
pub returns-in_default : goal.returns-in_default
returns-in_default c = λ p.
    let read = c.loop-at.invariant in
    let digit = HasRead-digit c.args.bytes.now c.loop-at.at c.loop-at.value read c.loop-at-test.true p.0.1 in
    let least = HasRead-least c.args.bytes.now c.loop-at.at c.loop-at.value read c.loop-at-test.true in
    let bound : digits_value 10 c.args.bytes.now < 2 ^ 64 = p.1 in
    c.in_default.ensures (digit, omega arith)

pub returns : goal.returns
returns c =
    let end = HasRead-end c.args.bytes.now c.loop-at.at c.loop-at.value c.loop-at.invariant (omega arith) in
    let some : 0 < length c.args.bytes.now = c.requires in
    (((some, end.0), end.2), end.1)
