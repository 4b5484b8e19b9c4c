use Rattle.road_model.proofs.UniqueEntries.{one_graph}
use Rattle.road_model.proofs.laws.one_graph.Goals as goal

pub returns : goal.returns
returns g c = λ M. one_graph M _
