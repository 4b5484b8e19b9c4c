use Rattle.std.proofs.Common.{arith, sym, ◌∙◌}
use Rattle.moment_rules.proofs.ShapeSteps.{unlike_length, shape_digit, shape_end}
use Rattle.moment_rules.proofs.shapes.has_shape.Goals as goal

pub returns-then-shape-text-clause-value : goal.returns-then-shape-text-clause-value
returns-then-shape-text-clause-value c =
    sym (unlike_length c.args.shape.now c.args.text.now (λ same. omega (arith, same)))

pub returns-clause-digits : goal.returns-clause-digits
returns-clause-digits c = λ _ k inside zero_here.
    let shape = c.args.shape.now in
    let text = c.args.text.now in
    let whole = shape_end shape text c.loop-at.at (omega arith) (omega arith) in
    shape_digit shape text (c.loop-at.invariant ∙ whole) k inside zero_here
