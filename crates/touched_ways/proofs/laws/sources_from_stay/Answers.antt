use Rattle.touched_ways.proofs.ArcSources.{sources_from}
use Rattle.touched_ways.proofs.laws.sources_from_stay.Goals as goal

pub returns : goal.returns
returns g c M N name last before front same =
    sources_from M N (g.P.Profile.rules c.args.profile.now) name last before front same
