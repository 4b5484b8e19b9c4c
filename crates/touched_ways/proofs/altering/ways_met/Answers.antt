use Rattle.std.proofs.Common.{sym, subst}
use Rattle.ordered_lists.specs.Orders.{Lists}
use Rattle.road_model.specs.Orders.{way_cmp}
use Rattle.road_base.specs.declared.ids.Key.TheVariants.{Node as NodeKey}
use Rattle.touched_ways.specs.Altering.{MeetsOne}
use Rattle.touched_ways.specs.Searches.{Finds, GivenBy, IsWayLink}
use Rattle.touched_ways.proofs.MetWays.{lists_found, met_exactly}
use Rattle.touched_ways.proofs.altering.ways_met.Goals as goal

pub returns : goal.returns
returns g c =
    let M = g.M.World.objects c.args.world.now in
    let ways = c.args.ways.now in
    let nodes = c.follow_ways.new.found in
    let start = c.in_ok-found.found in
    let end = c.find_ways_of_nodes.new.found in
    let second =
    subst (λ l. Finds start end (GivenBy (λ n. IsWayLink M (NodeKey n)) l)) c.as_slice.ensures.value
    c.in_ok-find_ways_of_nodes.ensures in
    subst (Lists (λ w. w) way_cmp (MeetsOne M ways)) (sym c.from_list.ensures)
    (lists_found c.leave_once.new.list.items end.ways.list.items c.leave_once.ensures.ascending
    c.leave_once.ensures.exactly (MeetsOne M ways)
    (met_exactly M ways c.in_ok-nodes.nodes nodes start end c.in_ok-nodes.ensures c.in_ok-found.ensures
    c.in_ok-follow_ways.ensures second))
