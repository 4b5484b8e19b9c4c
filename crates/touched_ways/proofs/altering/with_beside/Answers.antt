use Rattle.std.proofs.Common.{◌⊎◌, List, Contains, subst}
use Rattle.std.proofs.lemmas.Result.{IfOk-weaker}
use Rattle.road_base.specs.declared.ids.WayId.{WayId}
use Rattle.ordered_lists.specs.Orders.{Lists}
use Rattle.road_model.specs.Orders.{way_cmp}
use Rattle.touched_ways.specs.Altering.{AreNamedTogether, HereOrBeside}
use Rattle.touched_ways.proofs.MetWays.{with_those_beside}
use Rattle.touched_ways.proofs.altering.with_beside.Goals as goal

pub returns : goal.returns
returns g c =
    let M = g.M.World.objects c.args.world.now in
    let ways = c.args.ways.now in
    let beside = c.in_ok-beside.beside in
    let are =
    subst (λ (l : List WayId). Lists (λ w. w) way_cmp (λ w. (v : WayId) × AreNamedTogether M w v × Contains l v) beside)
    c.items.ensures c.in_ok-beside.ensures in
    IfOk-weaker c.merge.result (Lists (λ w. w) way_cmp (λ w. Contains ways w ⊎ Contains beside w))
    (Lists (λ w. w) way_cmp (HereOrBeside M (λ v. Contains ways v)))
    (λ all both. with_those_beside M ways beside all are both) c.merge.ensures.either
