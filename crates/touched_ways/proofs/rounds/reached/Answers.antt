use Rattle.std.proofs.Common.{◌⊎◌, List, subst}
use Rattle.std.proofs.lemmas.Result.{IfOk-weaker}
use Rattle.road_base.specs.declared.ids.Key.{Key}
use Rattle.road_base.specs.declared.ids.Key.TheVariants.{Way as WayKey}
use Rattle.road_model.specs.Links.{AreReached}
use Rattle.ordered_lists.specs.Orders.{Lists}
use Rattle.road_model.specs.Orders.{way_cmp}
use Rattle.touched_ways.specs.Searches.{IsSeen, IsFurther, IsBegun}
use Rattle.touched_ways.proofs.LinkRounds.{IsWithinAny, reach_any, begun_any, rounds_more, ways_reached}
use Rattle.touched_ways.proofs.rounds.reached.Goals as goal

pub returns : goal.returns
returns g c =
    let M = g.M.World.objects c.args.world.now in
    let keys = c.args.changed.now in
    let s = c.rounds.new.search in
    let begun = subst (λ (l : List Key). IsBegun l c.in_ok-search.search) c.items.ensures c.in_ok-search.ensures in
    let round = rounds_more M (IsWithinAny M keys) (reach_any M keys) 7 0 c.in_ok-search.search s
    (begun_any M keys c.in_ok-search.search begun) c.in_ok-rounds.ensures in
    IfOk-weaker c.last_round.result
    (Lists (λ w. w) way_cmp (λ w. IsSeen s (WayKey w) ⊎ IsFurther M s (WayKey w))) (AreReached M keys)
    (ways_reached M (IsWithinAny M keys) (reach_any M keys) 7 s round) c.last_round.ensures
