use Rattle.road_model.proofs.SomeGraph.{has_graph}
use Rattle.road_model.proofs.laws.has_graph.Goals as goal

pub returns : goal.returns
returns g c M = has_graph M _
