-- One departs over ways that refer to the node, and these were all looked at.
use Rattle.std.proofs.Common.{◌≡◌, List, [], take, Contains, pos, sym, subst, arith}
use Rattle.std.proofs.lemmas.List.{take_all}
use Rattle.road_base.specs.declared.ids.WayId.{WayId}
use Rattle.ordered_lists.specs.Orders.{Lists}
use Rattle.road_model.specs.Orders.{name_cmp}
use Rattle.way_pieces.specs.declared.departures.Departure.{Departure}
use Rattle.way_pieces.specs.Names.{IsDeparture}
use Rattle.ordered_lists.proofs.ListMembers.{contains_none}
use Rattle.ordered_lists.proofs.JoinedLists.{lists_none, lists_same}
use Rattle.way_pieces.proofs.DepartureLists.{name_way, passes}
use Rattle.way_pieces.proofs.WaysSoFar.{SoFar, way_gained}
use Rattle.way_pieces.proofs.road_pieces.RoadPieces.departures.Goals as goal

abbrev way : Departure → WayId
way d = d.first.way

pub loop-way-init : goal.loop-way-init
loop-way-init g c =
    let M = g.M.World.objects c.args.network.now.world.now in
    let P = g.P.Profile.rules c.args.network.now.profile in
    let v = c.args.node in
    subst (λ (l : List Departure). Lists (λ d. d.piece) name_cmp (SoFar way (IsDeparture M P v) []) l)
    (sym c.new-departures.ensures.items)
    (lists_none (λ d. d.piece) name_cmp (SoFar way (IsDeparture M P v) []) (λ z so. contains_none z.first.way so.0))

pub loop-way-preserved : goal.loop-way-preserved
loop-way-preserved g c =
    let M = g.M.World.objects c.args.network.now.world.now in
    let P = g.P.Profile.rules c.args.network.now.profile in
    let v = c.args.node in
    way_gained (λ d. d.piece) way (IsDeparture M P v) (name_way M P v)
    c.ways_at-way-items.result.now c.loop-way.way-index (record { 0 = pos 0 })
    c.loop-way.departures.items c.add_over.new.departures.items
    c.ways_at-way-items.ensures.ascending c.loop-way-test.true c.loop-way.invariant c.in_ok-add_over.ensures

pub returns : goal.returns
returns g c =
    let M = g.M.World.objects c.args.network.now.world.now in
    let P = g.P.Profile.rules c.args.network.now.profile in
    let v = c.args.node in
    let ways = c.ways_at-way-items.result.now in
    let i = c.loop-way.way-index in
    let past = c.loop-way-test.false in
    let whole : take i ways ≡ ways = take_all i ways (omega arith) in
    lists_same (λ d. d.piece) name_cmp (SoFar way (IsDeparture M P v) (take i ways)) (IsDeparture M P v)
    c.loop-way.departures.items c.loop-way.invariant
    (λ z so. so.1)
    (λ z dep. (
      subst (λ (ws : List WayId). Contains ws z.first.way) (sym whole)
          (c.ways_at-way-items.ensures.complete z.first.way (passes M P v z dep (c.roads_refer.ensures.passed M))),
      dep,
    ))
