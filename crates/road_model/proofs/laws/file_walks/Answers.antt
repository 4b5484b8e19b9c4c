use Rattle.road_model.proofs.FileWalks.{file_walks}
use Rattle.road_model.proofs.laws.file_walks.Goals as goal

pub returns : goal.returns
returns g c M blocks listed = file_walks M _ blocks listed
