use Rattle.std.proofs.Common.{Contains}
use Rattle.std.proofs.lemmas.Result.{IfOk-weaker}
use Rattle.ordered_lists.specs.Orders.{Lists}
use Rattle.road_model.specs.Orders.{way_cmp}
use Rattle.touched_ways.specs.Altering.{HereOrBeside, MeetsOne}
use Rattle.touched_ways.proofs.MetWays.{those_meeting}
use Rattle.touched_ways.proofs.altering.meeting.Goals as goal

pub returns : goal.returns
returns g c =
    let M = g.M.World.objects c.args.world.now in
    let ways = c.args.ways.now in
    IfOk-weaker c.with_beside.result (Lists (λ w. w) way_cmp (HereOrBeside M (λ v. Contains c.in_ok-met.met v)))
    (Lists (λ w. w) way_cmp (HereOrBeside M (MeetsOne M ways)))
    (λ found are. those_meeting M ways c.in_ok-met.met found c.in_ok-met.ensures are) c.with_beside.ensures
