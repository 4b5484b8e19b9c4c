use Rattle.turn_automata.specs.Visits.{AreFirst}
use Rattle.turn_automata.proofs.visits.first_visits.Given as goal

-- the first steps of the words so far
abbrev pub invariant-loop-word : goal.invariant-loop-word
invariant-loop-word l = AreFirst l.words l.visits.items l.word
