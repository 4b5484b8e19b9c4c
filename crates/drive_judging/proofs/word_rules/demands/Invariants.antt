use Rattle.std.proofs.Common.{Contains, take}
use Rattle.restrictions.specs.declared.word_list.Word.{Word}
use Rattle.drive_judging.specs.Judging.{DemandsNext}
use Rattle.drive_judging.proofs.word_rules.demands.Given as goal

-- none of the words so far demands the step
abbrev pub invariant-loop-word : goal.invariant-loop-word
invariant-loop-word l = (w : Word) → Contains (take l.word-index l.words) w → DemandsNext l.driven w l.step → ⊥
