use Rattle.turn_automata.specs.Watched.{IsWatchable}
use Rattle.turn_automata.proofs.Ends.{one_longest}
use Rattle.turn_automata.proofs.laws.one_watched.Goals as goal

pub returns : goal.returns
returns c = λ W d p q l m. one_longest (IsWatchable W) d p q l m
