use Rattle.std.proofs.Common.{length, option_copied}
use Rattle.opl_lexer.specs.Parts.{parts}
use Rattle.moment_rules.specs.Shapes.{parts_left}
use Rattle.moment_rules.specs.Times.{time_range, has_minute}
use Rattle.moment_rules.proofs.SaidParts.{Finds}
use Rattle.moment_rules.proofs.times.has_a_minute.Given as goal

abbrev pub invariant-loop-rest : goal.invariant-loop-rest
invariant-loop-rest l =
    Finds time_range (has_minute l.meant l.before l.minute) (parts 44 l.text) (parts_left 44 (option_copied l.rest))
    l.found

abbrev pub decreases-loop-rest : goal.decreases-loop-rest
decreases-loop-rest l = length (parts_left 44 (option_copied l.rest))
