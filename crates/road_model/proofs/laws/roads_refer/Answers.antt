use Rattle.road_model.proofs.ReferredNodes.{road_refers, step_refers, block_highway}
use Rattle.road_model.proofs.laws.roads_refer.Goals as goal

pub returns-clause-passed : goal.returns-clause-passed
returns-clause-passed g c = λ M. road_refers M (g.P.Profile.rules c.args.profile.now)
    (g.met.P.Profile.free_needs_highway c.args.profile.now)

pub returns-clause-left : goal.returns-clause-left
returns-clause-left g c = λ M. step_refers M (g.P.Profile.rules c.args.profile.now)
    (g.met.P.Profile.free_needs_highway c.args.profile.now)

pub returns-clause-blocks : goal.returns-clause-blocks
returns-clause-blocks g c = λ M. block_highway M (g.P.Profile.rules c.args.profile.now)
    (g.met.P.Profile.free_needs_highway c.args.profile.now)
