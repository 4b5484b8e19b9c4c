use Rattle.std.proofs.Common.{◌≡◌, IfOk, Some, subst, sym}
use Rattle.road_base.specs.declared.ids.NodeId.{NodeId}
use Rattle.least_cost.specs.Cheapest.{IsCheapest}
use Rattle.least_cost.specs.Costs.{location_of}
use Rattle.least_cost.proofs.least_drives.least_to.Goals as goal

pub least_between-requires-clause-at : goal.least_between-requires-clause-at
least_between-requires-clause-at g c =
    let M = g.M.World.objects c.args.network.now.world.now in
    subst (λ (v : NodeId). location_of M (Some v) ≡ Some c.args.to) (sym c.in_ok-ends.ensures.b) c.requires.at

pub returns : goal.returns
returns g c =
    let M = g.M.World.objects c.args.network.now.world.now in
    let P = g.P.Profile.rules c.args.network.now.profile in
    let found = c.least_between.result in
    subst (λ (a : NodeId). IfOk found (λ f. IsCheapest M P a c.args.b f)) c.in_ok-ends.ensures.a
    (subst (λ (b : NodeId). IfOk found (λ f. IsCheapest M P c.in_ok-ends.ends.a b f)) c.in_ok-ends.ensures.b
    c.least_between.ensures)
