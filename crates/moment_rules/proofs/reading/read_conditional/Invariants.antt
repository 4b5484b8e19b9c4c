use Rattle.std.proofs.Common.{length, option_copied}
use Rattle.opl_lexer.specs.Parts.{parts}
use Rattle.moment_rules.specs.Shapes.{parts_left}
use Rattle.moment_rules.proofs.LastValues.{HasLast}
use Rattle.moment_rules.proofs.reading.read_conditional.Given as goal

abbrev pub invariant-loop-rest : goal.invariant-loop-rest
invariant-loop-rest l =
    HasLast l.at (parts 59 l.value) (parts_left 59 (option_copied l.rest)) (option_copied l.last)

abbrev pub decreases-loop-rest : goal.decreases-loop-rest
decreases-loop-rest l = length (parts_left 59 (option_copied l.rest))
