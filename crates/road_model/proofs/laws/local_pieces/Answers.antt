use Rattle.road_model.proofs.LocalPieces.{local_pieces, local_places}
use Rattle.road_model.proofs.laws.local_pieces.Goals as goal

pub returns-clause-pieces : goal.returns-clause-pieces
returns-clause-pieces g c M N p same of = local_pieces M N (g.P.Profile.rules c.args.profile.now)
    (g.met.P.Profile.free_needs_highway c.args.profile.now) c.args.way p same of

pub returns-clause-places : goal.returns-clause-places
returns-clause-places g c M N p k x same of h = local_places M N (g.P.Profile.rules c.args.profile.now)
    (g.met.P.Profile.free_needs_highway c.args.profile.now) c.args.way p same of h k x
