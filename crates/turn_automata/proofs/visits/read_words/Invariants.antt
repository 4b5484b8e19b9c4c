use Rattle.std.proofs.Common.{drop}
use Rattle.turn_automata.specs.Visits.{AreFollowed}
use Rattle.turn_automata.specs.Work.{work}
use Rattle.turn_automata.proofs.visits.read_words.Given as goal

-- the visits so far were followed
abbrev pub invariant-loop-at : goal.invariant-loop-at
invariant-loop-at l = AreFollowed l.words l.tree l.visits.items l.at

abbrev pub decreases-loop-at : goal.decreases-loop-at
decreases-loop-at l = work l.words (drop l.at l.visits.items)
