use Rattle.road_model.proofs.PieceLaws.{context_decides}
use Rattle.road_model.proofs.laws.context_decides.Goals as goal

pub returns : goal.returns
returns g c M d e t i l k h = context_decides M _ d e t i l k
