use Rattle.std.proofs.Common.{◌<◌, length}
use Rattle.graph_tests.proofs.turn_automata_tests.watched.Given as goal

-- the state is one of the automaton's
abbrev pub invariant-loop-index : goal.invariant-loop-index
invariant-loop-index l = l.state.0 < length l.automaton.states
