use Rattle.opl_lexer.proofs.DigitSteps.{HasRead}
use Rattle.opl_lexer.proofs.numbers.many_digits.Given as goal

abbrev pub invariant-loop-at : goal.invariant-loop-at
invariant-loop-at l = HasRead l.bytes l.at l.value
