use Rattle.road_model.proofs.LocalContexts.{local_contexts}
use Rattle.road_model.proofs.laws.local_contexts.Goals as goal

pub returns : goal.returns
returns g c M N before p same of = local_contexts M N (g.P.Profile.rules c.args.profile.now)
    (g.met.P.Profile.free_needs_highway c.args.profile.now) c.args.way before p same of
