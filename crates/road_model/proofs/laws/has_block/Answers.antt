use Rattle.road_model.proofs.SomeGraph.{has_block}
use Rattle.road_model.proofs.laws.has_block.Goals as goal

pub returns : goal.returns
returns g c M = has_block M _
