use Rattle.road_model.proofs.LocalSources.{local_sources}
use Rattle.road_model.proofs.laws.local_sources.Goals as goal

pub returns : goal.returns
returns g c M N same = local_sources M N (g.P.Profile.rules c.args.profile.now)
    (g.met.P.Profile.free_needs_highway c.args.profile.now) c.args.way same
