use Rattle.std.proofs.Common.{arith, ◌≡◌, ◌<◌, ◌+◌, length, drop, slice_index}
use Rattle.std.specs.Str.Parse.{IsNumeral}
use Rattle.opl_lexer.proofs.FrontDigits.{front_alone, front_behind}
use Rattle.opl_lexer.proofs.numbers.plain_degrees.Goals as goal

pub returns-then-count-bytes-clause-found : goal.returns-then-count-bytes-clause-found
returns-then-count-bytes-clause-found c =
    front_alone c.args.bytes.now c.digits_in_front-whole.result.1 c.digits_in_front-whole.result.0
    c.digits_in_front-whole.ensures.front (omega arith) c.if-count-bytes.true

pub returns-clause-found : goal.returns-clause-found
returns-clause-found c =
    let bytes = c.args.bytes.now in
    let count = c.digits_in_front-whole.result.1 in
    let inside : count < length bytes = let within = c.digits_in_front-whole.ensures.within in omega arith in
    let point : slice_index bytes count ≡ 46 = omega arith in
    let numeral : IsNumeral 10 (drop (count + 1) bytes) = rw c.split_at.ensures.back at c.in-Some.ensures.value.0 in
    let value = rw c.split_at.ensures.back at c.in-Some.ensures.value.1 in
    front_behind bytes count c.digits_in_front-whole.result.0 c.in-Some.behind c.digits_in_front-whole.ensures.front
    (omega arith) inside point numeral value
