use Rattle.std.proofs.Common.{arith, ◌≡◌, ◌<◌, ◌+◌, ℕ, slice_index, refl, subst}
use Rattle.std.specs.Char.{digit_value}
use Rattle.moment_rules.proofs.ShapeSteps.{year_zeros}
use Rattle.moment_rules.proofs.moment.parse_moment.Goals as goal

pub four_digits-year-requires-clause-digits : goal.four_digits-year-requires-clause-digits
four_digits-year-requires-clause-digits c = λ k few.
    let digit = c.if-not-has_shape.ensures.digits refl k (omega arith) (year_zeros k few) in
    let same : k ≡ 0 + k = omega arith in
    subst (λ (n : ℕ). digit_value (slice_index c.as_bytes-bytes.result.now n) < 10) same digit
