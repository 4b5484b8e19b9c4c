use Rattle.std.proofs.Common.{arith, ◌≡◌, ◌<◌, ◌*◌, ◌-◌, ◌^◌, length, take, drop}
use Rattle.std.specs.Str.Parse.{AllDigits, IsNumeral, digits_value}
use Rattle.opl_lexer.proofs.Decimals.{AllDigits-from_index, AllDigits-take, AllDigits-drop, AllDigits-join}
use Rattle.opl_lexer.proofs.Decimals.{AllDigits-at, digits_value-short, scaled, SomeIff-change}
use Rattle.opl_lexer.proofs.numbers.places.Goals as goal

pub returns-in_default-clause-value : goal.returns-in_default-clause-value
returns-in_default-clause-value c = λ numeral.
    let short = digits_value-short c.args.bytes.now 7 numeral.1 (omega arith) in
    c.in_default.ensures (numeral, omega arith)

pub overflow_mul-result : goal.overflow_mul-result
overflow_mul-result c =
    let bytes = c.args.bytes.now in
    let less = digits_value-short bytes (length bytes) c.in-Some.ensures.0.0.1 (omega arith) in
    let bound = scaled (length bytes) (digits_value 10 bytes) (omega arith) less in
    rw (c.in-Some.ensures.1, c.power.ensures.value) (omega arith)

pub returns-then-bytes-lt7-clause-bound : goal.returns-then-bytes-lt7-clause-bound
returns-then-bytes-lt7-clause-bound c =
    let bytes = c.args.bytes.now in
    let less = digits_value-short bytes (length bytes) c.in-Some.ensures.0.0.1 (omega arith) in
    let bound = scaled (length bytes) (digits_value 10 bytes) (omega arith) less in
    rw (c.in-Some.ensures.1, c.power.ensures.value) (omega arith)

pub returns-then-digit_run-rest-clause-value : goal.returns-then-digit_run-rest-clause-value
returns-then-digit_run-rest-clause-value c = λ numeral.
    let rest = c.split_at.result.1.now in
    let all : AllDigits 10 rest = rw c.split_at.ensures.back (AllDigits-drop c.args.bytes.now 7 numeral.1) in
    let inside : c.digit_run.result < length rest = omega arith in
    let digit = AllDigits-at rest c.digit_run.result all inside in
    let none = c.digit_run.ensures.stops inside in
    absurd (omega arith)

pub returns-clause-value : goal.returns-clause-value
returns-clause-value c =
    let bytes = c.args.bytes.now in
    let rest = c.split_at.result.1.now in
    let front = c.split_at.result.0.now in
    let all : AllDigits 10 rest = AllDigits-from_index rest (λ k h. c.digit_run.ensures.digits k (omega arith)) in
    let behind : AllDigits 10 (drop 7 bytes) = rw c.split_at.ensures.back at all in
    let long : 7 - length bytes ≡ 0 = omega arith in
    SomeIff-change c.digits-2.result
    (IsNumeral 10 front × (digits_value 10 front < 2 ^ 64)) (IsNumeral 10 bytes)
    (digits_value 10 front) (digits_value 10 (take 7 bytes) * 10 ^ (7 - length bytes))
    c.digits-2.ensures
    (λ p. (omega arith, AllDigits-join bytes 7 (rw c.split_at.ensures.front at p.0.1) behind))
    (λ n. let taken : AllDigits 10 front = rw c.split_at.ensures.front (AllDigits-take bytes 7 n.1) in
    let short = digits_value-short front 7 taken (omega arith) in
    ((omega arith, taken), omega arith))
    (rw (c.split_at.ensures.front, long) (omega arith))
