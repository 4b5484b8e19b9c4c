use Rattle.std.proofs.Common.{sym, subst, Contains}
use Rattle.road_base.specs.declared.ids.WayId.{WayId}
use Rattle.road_base.specs.declared.ids.Key.TheVariants.{Relation as RelationKey}
use Rattle.ordered_lists.specs.Orders.{Lists}
use Rattle.road_model.specs.Orders.{way_cmp}
use Rattle.touched_ways.specs.Altering.{AreNamedTogether}
use Rattle.touched_ways.specs.Searches.{Finds, GivenBy, IsWayLink}
use Rattle.touched_ways.proofs.MetWays.{lists_found, beside_exactly}
use Rattle.touched_ways.proofs.altering.ways_beside.Goals as goal

pub returns : goal.returns
returns g c =
    let M = g.M.World.objects c.args.world.now in
    let ways = c.args.ways.now in
    let rules = c.leave_once.new.list.items in
    let start = c.in_ok-found.found in
    let end = c.find_ways_of_rules.new.found in
    let Is : WayId → Type 0 = λ w. (v : WayId) × AreNamedTogether M w v × Contains ways v in
    let second =
    subst (λ l. Finds start end (GivenBy (λ r. IsWayLink M (RelationKey r)) l)) c.as_slice.ensures.value
    c.in_ok-find_ways_of_rules.ensures in
    subst (Lists (λ w. w) way_cmp Is) (sym c.from_list.ensures)
    (lists_found c.leave_once-2.new.list.items end.ways.list.items c.leave_once-2.ensures.ascending
    c.leave_once-2.ensures.exactly Is
    (beside_exactly M ways c.in_ok-linked.linked c.follow_ways.new.found start end rules c.in_ok-linked.ensures
    c.in_ok-found.ensures c.in_ok-follow_ways.ensures c.leave_once.ensures.exactly second))
