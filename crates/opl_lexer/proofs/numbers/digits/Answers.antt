use Rattle.std.proofs.Common.{arith, rules, ◌<◌, length}
use Rattle.opl_lexer.proofs.Decimals.{AllDigits-at}
use Rattle.opl_lexer.proofs.FrontDigits.{front_whole, front_small}
use Rattle.opl_lexer.proofs.numbers.digits.Goals as goal

pub returns-then-count-bytes : goal.returns-then-count-bytes
returns-then-count-bytes c = λ p.
    let bytes = c.args.bytes.now in
    let count = c.digits_in_front-value.result.1 in
    let inside : count < length bytes = omega arith in
    let digit = AllDigits-at bytes count p.0.1 inside in
    let none = c.digits_in_front-value.ensures.stops (omega arith) inside in
    absurd (omega arith)

pub returns : goal.returns
returns c =
    let bytes = c.args.bytes.now in
    let some : 0 < length bytes = search rules in
    let whole = front_whole bytes c.digits_in_front-value.result.1 c.digits_in_front-value.result.0
    c.digits_in_front-value.ensures.front (omega arith) in
    let small = front_small bytes c.digits_in_front-value.result.1 c.digits_in_front-value.result.0
    c.digits_in_front-value.ensures.front c.digits_in_front-value.ensures.few in
    let same = whole.1 in
    (((some, whole.0), omega arith), same)
