use Rattle.turn_automata.proofs.WatchedSteps.{watched_grows}
use Rattle.turn_automata.proofs.laws.watched_grows.Goals as goal

pub returns : goal.returns
returns c = λ W d p r s l. watched_grows W d p r s l
