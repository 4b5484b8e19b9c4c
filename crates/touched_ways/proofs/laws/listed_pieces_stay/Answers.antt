use Rattle.touched_ways.proofs.SamePieces.{listed_same}
use Rattle.touched_ways.proofs.laws.listed_pieces_stay.Goals as goal

pub returns : goal.returns
returns g c M N w b d was is same = listed_same M N (g.P.Profile.rules c.args.profile.now) w b d was is same
