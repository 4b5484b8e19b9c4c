use Rattle.opl_lexer.specs.Numbers.{IsFront}
use Rattle.opl_lexer.proofs.numbers.digits_in_front.Given as goal

abbrev pub invariant-loop-at : goal.invariant-loop-at
invariant-loop-at l = IsFront l.bytes l.at l.value
