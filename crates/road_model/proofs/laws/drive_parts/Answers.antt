use Rattle.road_model.proofs.WalkLists.{inner_legal}
use Rattle.road_model.proofs.laws.drive_parts.Goals as goal

pub returns : goal.returns
returns g c M before d behind some l = inner_legal M _ before d behind some l
