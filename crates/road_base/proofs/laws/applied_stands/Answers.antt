use Rattle.road_base.proofs.Applied.{applied_stands}
use Rattle.road_base.proofs.laws.applied_stands.Goals as goal

pub returns : goal.returns
returns c = applied_stands
