use Rattle.turn_automata.proofs.WatchedSteps.{stops_same}
use Rattle.turn_automata.proofs.laws.watched_decides.Goals as goal

pub returns : goal.returns
returns c = λ W d p s l. stops_same W d p s l
