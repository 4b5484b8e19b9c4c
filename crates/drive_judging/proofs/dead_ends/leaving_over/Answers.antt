-- The steps of one way more are added, and those of all at the end.
use Rattle.std.proofs.Common.{List, take, sym, subst, arith}
use Rattle.std.proofs.lemmas.List.{take_all, take_more}
use Rattle.road_base.specs.declared.ids.WayId.{WayId}
use Rattle.drive_judging.specs.DeadEnds.{AreNoted, StepsOf}
use Rattle.drive_judging.proofs.NodesLeft.{none_noted, all_noted}
use Rattle.drive_judging.proofs.dead_ends.leaving_over.Goals as goal

pub loop-way-init : goal.loop-way-init
loop-way-init g c =
    let M = g.M.World.objects c.args.network.now.world.now in
    let P = g.P.Profile.rules c.args.network.now.profile in
    none_noted M P c.args.nodes.now c.args.ways.now c.in_ok-known.known (c.roads_refer.ensures.left M) c.requires
    c.in_ok-known.ensures

pub loop-way-preserved : goal.loop-way-preserved
loop-way-preserved g c =
    let M = g.M.World.objects c.args.network.now.world.now in
    let P = g.P.Profile.rules c.args.network.now.profile in
    let ways = c.args.ways.now in
    let i = c.loop-way.way-index in
    subst (λ (l : List WayId). AreNoted ways (StepsOf l) c.add_way.new.known M P)
    (sym (take_more ways i _ c.loop-way-test.true))
    (c.in_ok-add_way.ensures ways (take i ways) c.loop-way.invariant)

pub returns : goal.returns
returns g c =
    let M = g.M.World.objects c.args.network.now.world.now in
    let P = g.P.Profile.rules c.args.network.now.profile in
    let ways = c.args.ways.now in
    all_noted M P ways c.loop-way.known (subst (λ (l : List WayId). AreNoted ways (StepsOf l) c.loop-way.known M P)
    (take_all c.loop-way.way-index ways (let past = c.loop-way-test.false in omega arith)) c.loop-way.invariant)
