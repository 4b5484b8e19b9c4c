use Rattle.std.proofs.Common.{length, option_copied}
use Rattle.opl_lexer.specs.Parts.{parts}
use Rattle.moment_rules.specs.Shapes.{parts_left}
use Rattle.moment_rules.specs.Days.{day_range, has_day}
use Rattle.moment_rules.proofs.SaidParts.{Finds}
use Rattle.moment_rules.proofs.days.has_a_day.Given as goal

abbrev pub invariant-loop-rest : goal.invariant-loop-rest
invariant-loop-rest l =
    Finds day_range (has_day l.day) (parts 44 l.text) (parts_left 44 (option_copied l.rest)) l.found

abbrev pub decreases-loop-rest : goal.decreases-loop-rest
decreases-loop-rest l = length (parts_left 44 (option_copied l.rest))
