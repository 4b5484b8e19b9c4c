-- One arrives over ways that refer to the node, and these were all looked at.
use Rattle.std.proofs.Common.{◌≡◌, List, [], take, Contains, pos, refl, sym, subst, arith}
use Rattle.std.proofs.lemmas.List.{take_all}
use Rattle.road_base.specs.declared.ids.WayId.{WayId}
use Rattle.ordered_lists.specs.Orders.{Lists}
use Rattle.road_model.specs.Orders.{name_cmp}
use Rattle.way_pieces.specs.declared.arrivals.Arrival.{Arrival}
use Rattle.way_pieces.specs.Arrivals.{arriving}
use Rattle.way_pieces.specs.Names.{IsArrival}
use Rattle.ordered_lists.proofs.ListMembers.{contains_none}
use Rattle.ordered_lists.proofs.JoinedLists.{lists_none, lists_same}
use Rattle.way_pieces.proofs.ArrivalLists.{comes_by}
use Rattle.way_pieces.proofs.WaysSoFar.{SoFar, way_gained}
use Rattle.way_pieces.proofs.road_pieces.RoadPieces.arrivals.Goals as goal

abbrev way : Arrival → WayId
way a = a.span.name.way

pub loop-way-init : goal.loop-way-init
loop-way-init g c =
    let M = g.M.World.objects c.args.network.now.world.now in
    let P = g.P.Profile.rules c.args.network.now.profile in
    let v = c.args.node in
    subst (λ (l : List Arrival). Lists arriving name_cmp (SoFar way (IsArrival M P v) []) l)
    (sym c.new-arrivals.ensures.items)
    (lists_none arriving name_cmp (SoFar way (IsArrival M P v) []) (λ z so. contains_none z.span.name.way so.0))

pub loop-way-preserved : goal.loop-way-preserved
loop-way-preserved g c =
    let M = g.M.World.objects c.args.network.now.world.now in
    let P = g.P.Profile.rules c.args.network.now.profile in
    let v = c.args.node in
    way_gained arriving way (IsArrival M P v) (λ z is. refl)
    c.ways_at-way-items.result.now c.loop-way.way-index (record { 0 = pos 0 })
    c.loop-way.arrivals.items c.add_coming.new.arrivals.items
    c.ways_at-way-items.ensures.ascending c.loop-way-test.true c.loop-way.invariant c.in_ok-add_coming.ensures

pub returns : goal.returns
returns g c =
    let M = g.M.World.objects c.args.network.now.world.now in
    let P = g.P.Profile.rules c.args.network.now.profile in
    let v = c.args.node in
    let ways = c.ways_at-way-items.result.now in
    let i = c.loop-way.way-index in
    let past = c.loop-way-test.false in
    let whole : take i ways ≡ ways = take_all i ways (omega arith) in
    lists_same arriving name_cmp (SoFar way (IsArrival M P v) (take i ways)) (IsArrival M P v)
    c.loop-way.arrivals.items c.loop-way.invariant
    (λ z so. so.1)
    (λ z is. (
      subst (λ (ws : List WayId). Contains ws z.span.name.way) (sym whole)
          (c.ways_at-way-items.ensures.complete z.span.name.way
          (comes_by M P v z is (c.roads_refer.ensures.passed M))),
      is,
    ))
