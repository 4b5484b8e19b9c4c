use Rattle.road_model.proofs.WalkLaw.{spelled, one_to_one, one_walk, onto, shortest}
use Rattle.road_model.proofs.FiniteWords.{continues}
use Rattle.road_model.proofs.laws.walk_law.Goals as goal

pub returns : goal.returns
returns g c M = record {
  legal = λ d w. spelled M _ d w;
  one_to_one = λ d e v w h. one_to_one M _ d e v w h;
  contexts = λ d b e v w. one_walk M _ d b e v w;
  onto = λ s j. onto M _ (continues M _) s j;
  shortest = λ s l. shortest M _ (continues M _) s l;
}
