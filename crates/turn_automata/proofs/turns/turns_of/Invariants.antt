use Rattle.std.proofs.Common.{take}
use Rattle.turn_automata.specs.Turns.{AreMarked}
use Rattle.turn_automata.proofs.turns.turns_of.Given as goal

-- the turns of the visits so far
abbrev pub invariant-loop-visit : goal.invariant-loop-visit
invariant-loop-visit l = AreMarked l.words (take l.visit-index l.visits) l.turns
