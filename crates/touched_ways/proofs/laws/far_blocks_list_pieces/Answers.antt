use Rattle.touched_ways.proofs.ListedPieces.{far_block_lists}
use Rattle.touched_ways.proofs.laws.far_blocks_list_pieces.Goals as goal

pub returns : goal.returns
returns g c M N w b far is = far_block_lists M N (g.P.Profile.rules c.args.profile.now) w
    (g.met.P.Profile.free_needs_highway c.args.profile.now) b far is
