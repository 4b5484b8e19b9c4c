use Rattle.std.proofs.Common.{◌⊎◌, Contains, refl}
use Rattle.std.proofs.lemmas.Result.{IfOk-weaker}
use Rattle.road_base.specs.declared.ids.Key.TheVariants.{Way as WayKey}
use Rattle.ordered_lists.specs.Orders.{Lists}
use Rattle.road_model.specs.Orders.{way_cmp}
use Rattle.touched_ways.specs.Searches.{IsSeen, IsFurther}
use Rattle.touched_ways.proofs.LinkRounds.{last_ways}
use Rattle.touched_ways.proofs.rounds.last_round.Goals as goal

pub returns : goal.returns
returns g c =
    let M = g.M.World.objects c.args.world.now in
    let s = c.args.search in
    let last = c.find_ways_of_rules.new.found.ways.list.items in
    IfOk-weaker c.ways_with.result
    (Lists (λ w. w) way_cmp (λ w. Contains s.ways.all.items w ⊎ Contains last w))
    (Lists (λ w. w) way_cmp (λ w. IsSeen s (WayKey w) ⊎ IsFurther M s (WayKey w)))
    (λ ways lists. last_ways M s c.as_slice.result.now c.as_slice-2.result.now c.as_slice.ensures.value
    c.as_slice-2.ensures.value c.in_ok-found.found c.find_ways_of_nodes.new.found c.find_ways_of_rules.new.found
    c.in_ok-found.ensures c.in_ok-find_ways_of_nodes.ensures c.in_ok-find_ways_of_rules.ensures last ways refl lists)
    c.ways_with.ensures
