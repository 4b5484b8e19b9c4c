use Rattle.road_model.proofs.LocalBlocks.{local_blocks}
use Rattle.road_model.proofs.laws.local_blocks.Goals as goal

pub returns : goal.returns
returns g c M N same = local_blocks M N (g.P.Profile.rules c.args.profile.now)
    (g.met.P.Profile.free_needs_highway c.args.profile.now) c.args.way same
