use Rattle.road_model.proofs.PieceLaws.{before_whole, behind_whole}
use Rattle.road_model.proofs.laws.whole_pieces.Goals as goal

pub returns : goal.returns
returns g c = record {
  before = λ M p front s back rest. before_whole M _ p front s back rest;
  behind = λ M p front s back rest. behind_whole M _ p front s back rest;
}
