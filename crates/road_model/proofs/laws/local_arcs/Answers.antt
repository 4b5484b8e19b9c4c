use Rattle.road_model.proofs.LocalContexts.{local_arcs}
use Rattle.road_model.proofs.laws.local_arcs.Goals as goal

pub returns : goal.returns
returns g c M N before p t target same of = local_arcs M N (g.P.Profile.rules c.args.profile.now)
    (g.met.P.Profile.free_needs_highway c.args.profile.now) c.args.way before p t target same of
