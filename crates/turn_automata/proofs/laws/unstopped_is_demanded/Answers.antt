use Rattle.turn_automata.proofs.DecidedSteps.{demanded}
use Rattle.turn_automata.proofs.laws.unstopped_is_demanded.Goals as goal

pub returns : goal.returns
returns c = λ W p s free front end x is must. demanded W p s free front end x is must
