use Rattle.std.proofs.Common.{[]}
use Rattle.road_model.proofs.WalkLists.{step_legal}
use Rattle.road_model.proofs.JoinedPieces.{goes_on, one_more}
use Rattle.road_model.proofs.laws.drive_grows.Goals as goal

pub returns-clause-alone : goal.returns-clause-alone
returns-clause-alone g c M s h = step_legal M _ s h

pub returns-clause-grows : goal.returns-clause-grows
returns-clause-grows g c M d t l h = ((λ k. one_more M _ d t l h k), (λ k. goes_on M _ d [] t l.not_empty k))
