use Rattle.std.proofs.Common.{arith, ◌<◌, ◌^◌}
use Rattle.std.specs.Str.Parse.{digits_value}
use Rattle.opl_lexer.proofs.Numerals.{units_large, units_none, units_whole, units_behind}
use Rattle.opl_lexer.proofs.numbers.any_degrees.Goals as goal

pub returns-in_default-clause-none : goal.returns-in_default-clause-none
returns-in_default-clause-none c =
    let first = c.at_point.ensures.first in
    rw first.1 (units_large c.at_point.result.0.now first.0
    (λ numeral. let huge : digits_value 10 c.at_point.result.0.now < 2 ^ 64
    → ⊥ = λ h. c.in_default.ensures (numeral, h) in omega arith))

pub returns-then-whole-gt1000-clause-none : goal.returns-then-whole-gt1000-clause-none
returns-then-whole-gt1000-clause-none c =
    let first = c.at_point.ensures.first in
    rw first.1 (units_large c.at_point.result.0.now first.0 (λ numeral. let same = c.in-Some.ensures.1 in omega arith))

pub returns-in_default-behind-clause-found : goal.returns-in_default-behind-clause-found
returns-in_default-behind-clause-found c =
    let whole = rw c.in_default-behind.is at c.at_point.ensures.whole in
    rw whole (units_whole c.at_point.result.0.now c.in-Some.whole c.in-Some.ensures.0.0 c.in-Some.ensures.1)

pub returns-in_default-places-clause-none : goal.returns-in_default-places-clause-none
returns-in_default-places-clause-none c =
    let cut = rw c.in-Some-behind.is at c.at_point.ensures.cut in
    rw (cut, units_none c.at_point.result.0.now c.in-Some-behind.behind.now c.in_default-places.ensures.value) tt

pub returns-clause-found : goal.returns-clause-found
returns-clause-found c =
    let cut = rw c.in-Some-behind.is at c.at_point.ensures.cut in
    rw cut (units_behind c.at_point.result.0.now c.in-Some-behind.behind.now c.in-Some.whole c.in-Some-places.behind
    c.in-Some.ensures.0.0 c.in-Some.ensures.1 c.in-Some-places.ensures.value.0 c.in-Some-places.ensures.value.1)
