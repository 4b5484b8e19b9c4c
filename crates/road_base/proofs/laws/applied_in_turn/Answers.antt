use Rattle.road_base.proofs.Applied.{applied_in_turn}
use Rattle.road_base.proofs.laws.applied_in_turn.Goals as goal

pub returns : goal.returns
returns c = applied_in_turn
