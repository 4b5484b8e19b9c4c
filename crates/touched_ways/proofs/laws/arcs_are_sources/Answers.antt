use Rattle.touched_ways.proofs.ArcSources.{arc_sources}
use Rattle.touched_ways.proofs.laws.arcs_are_sources.Goals as goal

pub returns : goal.returns
returns g c M b name last before front is =
    arc_sources M (g.P.Profile.rules c.args.profile.now) b name last before front is
