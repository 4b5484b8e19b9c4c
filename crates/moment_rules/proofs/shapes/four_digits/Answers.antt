use Rattle.std.proofs.Common.{arith, ◌≡◌, ◌<◌, ◌+◌, ℕ, slice_index, sym, subst}
use Rattle.std.specs.Char.{digit_value}
use Rattle.moment_rules.proofs.ShapeSteps.{four_are}
use Rattle.moment_rules.proofs.shapes.four_digits.Goals as goal

pub two_digits-requires-clause-first : goal.two_digits-requires-clause-first
two_digits-requires-clause-first c =
    let same : c.args.place + 0 ≡ c.args.place = omega arith in
    subst (λ (k : ℕ). digit_value (slice_index c.args.text.now k) < 10) same (c.requires.digits 0 (omega arith))

pub two_digits-requires-2-clause-second : goal.two_digits-requires-2-clause-second
two_digits-requires-2-clause-second c =
    let same : c.args.place + 3 ≡ c.args.place + 2 + 1 = omega arith in
    subst (λ (k : ℕ). digit_value (slice_index c.args.text.now k) < 10) same (c.requires.digits 3 (omega arith))

pub returns-clause-value : goal.returns-clause-value
returns-clause-value c =
    rw (c.two_digits.ensures.value, c.two_digits-2.ensures.value)
    (sym (four_are c.args.text.now c.args.place c.requires.inside))
