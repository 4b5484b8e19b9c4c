use Rattle.road_model.proofs.UniqueEntries.{one_block}
use Rattle.road_model.proofs.laws.one_block.Goals as goal

pub returns : goal.returns
returns g c = λ M. one_block M _
