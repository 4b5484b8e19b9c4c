use Rattle.touched_ways.proofs.StillBlocks.{unaltered_arcs}
use Rattle.touched_ways.proofs.laws.unaltered_blocks_stay.Goals as goal

pub returns : goal.returns
returns g c M N w unaltered = unaltered_arcs M N (g.P.Profile.rules c.args.profile.now)
    (g.met.P.Profile.free_needs_highway c.args.profile.now) w unaltered
