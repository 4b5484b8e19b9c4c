-- A run begins at one of the ends of the first via way, so these two nodes decide.
use Rattle.std.proofs.Common.{sym}
use Rattle.restrictions.specs.Runs.{allows}
use Rattle.restrictions.proofs.OneRun.{connect_first, connect_second, connect_nowhere}
use Rattle.restrictions.proofs.runs.connects.Goals as goal

pub returns-then-leads_from : goal.returns-then-leads_from
returns-then-leads_from g c =
    let M = g.M.World.objects c.args.network.now.world.now in
    connect_first M (allows M (g.P.Profile.rules c.args.network.now.profile) c.args.allowed) c.args.roles.now.body.now
    c.args.ways.now c.in-Some.ends.first c.in-Some.ends.last c.leads_from.result c.requires
    c.in-Some.ensures.first c.in-Some.ensures.last c.leads_from.ensures c.if-leads_from.true

pub returns-else-leads_from : goal.returns-else-leads_from
returns-else-leads_from g c =
    let M = g.M.World.objects c.args.network.now.world.now in
    connect_second M (allows M (g.P.Profile.rules c.args.network.now.profile) c.args.allowed) c.args.roles.now.body.now
    c.args.ways.now c.in-Some.ends.first c.in-Some.ends.last c.leads_from.result
    c.leads_from-else-leads_from.result c.requires c.in-Some.ensures.first c.in-Some.ensures.last c.leads_from.ensures
    c.if-leads_from.false c.leads_from-else-leads_from.ensures

pub returns-in_default : goal.returns-in_default
returns-in_default g c =
    let M = g.M.World.objects c.args.network.now.world.now in
    sym (connect_nowhere M (allows M (g.P.Profile.rules c.args.network.now.profile) c.args.allowed)
    c.args.roles.now.body.now c.args.ways.now (sym c.in_default.ensures.first) (sym c.in_default.ensures.last))
