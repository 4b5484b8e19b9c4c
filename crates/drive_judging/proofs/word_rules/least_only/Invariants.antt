use Rattle.drive_judging.specs.Judging.{IsLeastIf}
use Rattle.drive_judging.proofs.WordsCompared.{LeavesShort}
use Rattle.drive_judging.proofs.word_rules.least_only.Given as goal

-- the least relation behind the ends of fewer steps than come next
abbrev pub invariant-loop-count : goal.invariant-loop-count
invariant-loop-count l = IsLeastIf (LeavesShort l.words l.before l.step l.count) l.least
