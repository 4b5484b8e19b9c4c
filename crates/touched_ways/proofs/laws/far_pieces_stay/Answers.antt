use Rattle.touched_ways.proofs.SamePieces.{far_pieces}
use Rattle.touched_ways.proofs.laws.far_pieces_stay.Goals as goal

pub returns : goal.returns
returns g c M N w far = far_pieces M N (g.P.Profile.rules c.args.profile.now)
    (g.met.P.Profile.free_needs_highway c.args.profile.now) w far
