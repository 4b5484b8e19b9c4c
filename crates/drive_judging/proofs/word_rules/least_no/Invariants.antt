use Rattle.std.proofs.Common.{take}
use Rattle.drive_judging.specs.Judging.{EndsDriven, IsLeastIf, WordWith}
use Rattle.drive_judging.proofs.word_rules.least_no.Given as goal

-- the least relation of the words so far
abbrev pub invariant-loop-word : goal.invariant-loop-word
invariant-loop-word l = IsLeastIf (WordWith (take l.word-index l.words) (EndsDriven l.before l.step)) l.least
