use Rattle.road_model.proofs.WalkLists.{piece_legal}
use Rattle.road_model.proofs.JoinedPieces.{one_junction}
use Rattle.road_model.proofs.laws.one_junction.Goals as goal

pub returns-clause-alone : goal.returns-clause-alone
returns-clause-alone g c M p i = piece_legal M _ p i

pub returns-clause-joined : goal.returns-clause-joined
returns-clause-joined g c M d t first more i some l k e = one_junction M _ _ t first more l.not_empty l k e
