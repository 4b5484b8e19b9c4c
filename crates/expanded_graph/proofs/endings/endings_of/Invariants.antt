use Rattle.expanded_graph.proofs.EndingStates.{AreEndingsBelow}
use Rattle.expanded_graph.proofs.endings.endings_of.Given as goal

-- the endings so far are those below the number
abbrev pub invariant-loop-number : goal.invariant-loop-number
invariant-loop-number l = AreEndingsBelow l.states.automaton l.states.facts.items l.number l.endings.items
