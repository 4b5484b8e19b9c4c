use Rattle.std.proofs.Common.{◌≡◌, false, option_copied, ap, ◌∙◌, rules}
use Rattle.moment_rules.specs.Shapes.{parts_left}
use Rattle.moment_rules.proofs.LastValues.{last_applies, last_quiet}
use Rattle.moment_rules.proofs.reading.read_conditional.Goals as goal

pub loop-rest-preserved-then-applies : goal.loop-rest-preserved-then-applies
loop-rest-preserved-then-applies c =
    let rest = ap (λ o. parts_left 59 (option_copied o)) c.in-Some.is ∙ c.cut.ensures.parts in
    let so_far = rw rest at c.loop-rest.invariant in
    last_applies c.args.at _ _ _ _ c.in-Some-read_part.said.now so_far
    (rw c.if-applies.true at c.in-Some-read_part.ensures.some)

pub loop-rest-preserved : goal.loop-rest-preserved
loop-rest-preserved c =
    let rest = ap (λ o. parts_left 59 (option_copied o)) c.in-Some.is ∙ c.cut.ensures.parts in
    let so_far = rw rest at c.loop-rest.invariant in
    let quiet : c.in-Some-read_part.applies ≡ false = search rules in
    last_quiet c.args.at _ _ _ _ c.in-Some-read_part.said.now so_far
    (rw quiet at c.in-Some-read_part.ensures.some)
