use Rattle.std.proofs.Common.{◌∙◌, refl, sym, arith, ◌≡◌, ◌≤◌, drop, length}
use Rattle.std.specs.Fmt.{decimal}
use Rattle.reply_lines.proofs.TextDigits.{at_most_twenty, last_digit, one_less, only_digit, one_digit}
use Rattle.reply_lines.proofs.digits.put_decimal.Goals as goal

pub loop-left-init : goal.loop-left-init
loop-left-init c =
    let few : length (decimal c.args.number) ≤ 20 = at_most_twenty c.args.number c.ranges.number.fits in
    record { space = omega arith; before = omega arith; near = omega arith; written = refl }

pub put_byte-start-requires-clause-some : goal.put_byte-start-requires-clause-some
put_byte-start-requires-clause-some c =
    omega (arith, one_less c.loop-left.left c.loop-left-test.true c.loop-left.auto.left-fits.fits)

pub loop-left-preserved : goal.loop-left-preserved
loop-left-preserved c =
    let left = c.loop-left.left in
    let less = one_less left c.loop-left-test.true c.loop-left.auto.left-fits.fits in
    let moved = last_digit left (drop c.loop-left.start c.loop-left.room) c.loop-left-test.true
    c.loop-left.auto.left-fits.fits in
    record {
      space = omega arith;
      before = omega arith;
      near = omega arith;
      written = rw c.put_byte-start.ensures.written (sym moved ∙ c.loop-left.invariant.written);
    }

pub put_byte-requires-clause-some : goal.put_byte-requires-clause-some
put_byte-requires-clause-some c =
    let one : length (decimal c.loop-left.left) ≡ 1 = one_digit c.loop-left.left (omega arith) in omega arith

pub returns-clause-start : goal.returns-clause-start
returns-clause-start c =
    let one : length (decimal c.loop-left.left) ≡ 1 = one_digit c.loop-left.left (omega arith) in omega arith

pub returns-clause-written : goal.returns-clause-written
returns-clause-written c =
    c.put_byte.ensures.written
    ∙ sym (only_digit c.loop-left.left (drop c.loop-left.start c.loop-left.room) (omega arith))
    ∙ c.loop-left.invariant.written
