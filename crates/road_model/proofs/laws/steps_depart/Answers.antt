use Rattle.road_model.proofs.StraightOn.{begins_piece}
use Rattle.road_model.proofs.laws.steps_depart.Goals as goal

pub returns : goal.returns
returns g c M p front last u v i e to leaves = begins_piece M _ p i front last e u v to leaves
