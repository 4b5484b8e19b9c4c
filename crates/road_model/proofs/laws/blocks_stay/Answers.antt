use Rattle.road_model.proofs.LocalBlocks.{untouched_block}
use Rattle.road_model.proofs.laws.blocks_stay.Goals as goal

pub returns : goal.returns
returns g c M N w b untouched = untouched_block M N (g.P.Profile.rules c.args.profile.now)
    (g.met.P.Profile.free_needs_highway c.args.profile.now) w b untouched
