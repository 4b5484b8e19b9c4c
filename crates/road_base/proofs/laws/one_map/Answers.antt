use Rattle.road_base.proofs.Applied.{one_map}
use Rattle.road_base.proofs.laws.one_map.Goals as goal

pub returns : goal.returns
returns c = one_map
