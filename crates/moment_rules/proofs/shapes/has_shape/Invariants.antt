use Rattle.std.proofs.Common.{◌≡◌, drop}
use Rattle.moment_rules.specs.Shapes.{has_shape}
use Rattle.moment_rules.proofs.shapes.has_shape.Given as goal

abbrev pub invariant-loop-at : goal.invariant-loop-at
invariant-loop-at l = has_shape l.shape l.text ≡ has_shape (drop l.at l.shape) (drop l.at l.text)
