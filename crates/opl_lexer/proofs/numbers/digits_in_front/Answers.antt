use Rattle.std.proofs.Common.{arith, ◌<◌, length}
use Rattle.opl_lexer.proofs.FrontDigits.{front_start, front_more, front_below}
use Rattle.opl_lexer.proofs.numbers.digits_in_front.Goals as goal

pub loop-at-init : goal.loop-at-init
loop-at-init c = front_start c.args.bytes.now

pub overflow_mul-value : goal.overflow_mul-value
overflow_mul-value c =
    let small = front_below c.args.bytes.now c.loop-at.at c.loop-at.value c.loop-at.invariant (omega arith) in
    omega arith

pub overflow_add-value : goal.overflow_add-value
overflow_add-value c =
    let small = front_below c.args.bytes.now c.loop-at.at c.loop-at.value c.loop-at.invariant (omega arith) in
    let digit = c.in-Some.ensures.0 in
    let same = c.in-Some.ensures.1 in
    omega arith

pub loop-at-preserved : goal.loop-at-preserved
loop-at-preserved c =
    let inside : c.loop-at.at < length c.args.bytes.now = omega arith in
    rw c.in-Some.ensures.1 (front_more c.args.bytes.now c.loop-at.at c.loop-at.value c.loop-at.invariant inside
    c.in-Some.ensures.0)
