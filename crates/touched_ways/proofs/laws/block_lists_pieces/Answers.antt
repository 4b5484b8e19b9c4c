use Rattle.touched_ways.proofs.ListedPieces.{block_lists}
use Rattle.touched_ways.proofs.laws.block_lists_pieces.Goals as goal

pub returns : goal.returns
returns g c M w b is = block_lists M (g.P.Profile.rules c.args.profile.now) w b is
