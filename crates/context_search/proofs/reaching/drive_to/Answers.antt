use Rattle.std.proofs.Common.{IfOk, subst}
use Rattle.road_base.specs.declared.ids.NodeId.{NodeId}
use Rattle.context_search.specs.PhaseWalks.{IsFoundIn}
use Rattle.context_search.proofs.reaching.drive_to.Goals as goal

pub returns : goal.returns
returns g c =
    let M = g.M.World.objects c.args.network.now.world.now in
    let P = g.P.Profile.rules c.args.network.now.profile in
    let F = g.F.Phases.rules c.args.phases.now in
    let found = c.drive_between.result in
    subst (λ (a : NodeId). IfOk found (λ f. IsFoundIn M P F a c.args.b f)) c.in_ok-ends.ensures.a
    (subst (λ (b : NodeId). IfOk found (λ f. IsFoundIn M P F c.in_ok-ends.ends.a b f)) c.in_ok-ends.ensures.b
    c.drive_between.ensures)
