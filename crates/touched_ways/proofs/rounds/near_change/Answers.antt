use Rattle.std.proofs.Common.{◌⊎◌, List, suc, subst}
use Rattle.std.proofs.lemmas.Result.{IfOk-weaker}
use Rattle.road_base.specs.declared.ids.Key.{Key}
use Rattle.road_base.specs.declared.ids.Key.TheVariants.{Way as WayKey}
use Rattle.ordered_lists.specs.Orders.{Lists}
use Rattle.road_model.specs.Orders.{way_cmp}
use Rattle.road_model.specs.Links.{AreChanged}
use Rattle.touched_ways.specs.Altering.{IsNearChange}
use Rattle.touched_ways.specs.Searches.{IsBegun, IsSeen, IsFurther}
use Rattle.touched_ways.proofs.LinkRounds.{ways_reached}
use Rattle.touched_ways.proofs.ChangedLinks.{IsWithinInOne, reach_behind, first_round, near_ways}
use Rattle.touched_ways.proofs.rounds.near_change.Goals as goal

pub returns : goal.returns
returns g c =
    let M = g.M.World.objects c.args.before.now in
    let N = g.N.World.objects c.args.after.now in
    let keys = c.args.changed.now in
    let begun = subst (λ (l : List Key). IsBegun l c.in_ok-search.search) c.items.ensures c.in_ok-search.ensures in
    IfOk-weaker c.last_round.result
    (Lists (λ w. w) way_cmp
    (λ w. IsSeen c.round_in_both.new.search (WayKey w) ⊎ IsFurther N c.round_in_both.new.search (WayKey w)))
    (λ ways. AreChanged M N keys → Lists (λ w. w) way_cmp (IsNearChange M N) ways)
    (λ ways lists changed.
    let near = first_round M N keys changed c.in_ok-search.search c.round_in_both.new.search begun
    c.in_ok-round_in_both.ensures in
    near_ways M N keys changed ways
    (ways_reached N (λ n. IsWithinInOne M N keys (suc n)) (reach_behind M N keys changed) 0 c.round_in_both.new.search
    near ways lists)) c.last_round.ensures
