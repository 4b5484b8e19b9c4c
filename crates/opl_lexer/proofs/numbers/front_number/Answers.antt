use mir.Val.{to_z}
use Rattle.std.proofs.Common.{arith, w64, pos, Some, ap, sym, ◌∙◌, ◌≡◌, ◌≤◌, length}
use Rattle.std.proofs.lemmas.Int.{ints}
use Rattle.opl_lexer.proofs.FrontDigits.{front_is_numeral, front_is_whole, front_small}
use Rattle.opl_lexer.proofs.numbers.front_number.Goals as goal

pub returns-clause-digits : goal.returns-clause-digits
returns-clause-digits c =
    let text = c.args.text.now in
    let front = rw c.as_bytes.ensures.value at c.digits_in_front-value.ensures.front in
    let within : c.digits_in_front-value.result.1 ≤ length text = rw c.as_bytes.ensures.value at
    c.digits_in_front-value.ensures.within in
    front_is_numeral text c.digits_in_front-value.result.1 c.digits_in_front-value.result.0 front (omega arith) within

pub returns-clause-value : goal.returns-clause-value
returns-clause-value c =
    let text = c.args.text.now in
    let front = rw c.as_bytes.ensures.value at c.digits_in_front-value.ensures.front in
    let within : c.digits_in_front-value.result.1 ≤ length text = rw c.as_bytes.ensures.value at
    c.digits_in_front-value.ensures.within in
    let small = front_small text c.digits_in_front-value.result.1 c.digits_in_front-value.result.0 front
    c.digits_in_front-value.ensures.few in
    let same : to_z w64 c.digits_in_front-value.result.0 ≡ pos c.digits_in_front-value.result.0 = omega (arith, ints) in
    front_is_whole text c.digits_in_front-value.result.1 c.digits_in_front-value.result.0 front (omega arith) within
    c.digits_in_front-value.ensures.few ∙ ap Some (sym same)

pub overflow_cast-result : goal.overflow_cast-result
overflow_cast-result c =
    let small = front_small c.as_bytes.result.now c.digits_in_front-value.result.1 c.digits_in_front-value.result.0
    c.digits_in_front-value.ensures.front c.digits_in_front-value.ensures.few in
    omega (arith, ints)
