use Rattle.road_model.proofs.LocalBlocks.{same_blocks}
use Rattle.road_model.proofs.laws.same_blocks.Goals as goal

pub returns : goal.returns
returns g c M N w b same sources = same_blocks M N (g.P.Profile.rules c.args.profile.now) w b same sources
