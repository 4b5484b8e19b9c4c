-- The relations of one way more are listed, and all at the end.
use Rattle.std.proofs.Common.{List, [], subst, arith}
use Rattle.std.proofs.lemmas.List.{take_all}
use Rattle.road_base.specs.declared.ids.WayId.{WayId}
use Rattle.expanded_graph.specs.Known.{GainsApart, IsOnSome}
use Rattle.expanded_graph.proofs.WordsNear.{relations_more, relations_listed}
use Rattle.expanded_graph.proofs.words.relations_of.Goals as goal

pub loop-way-preserved : goal.loop-way-preserved
loop-way-preserved g c =
    relations_more (g.M.World.objects c.args.network.now.world.now) c.args.known.now c.args.ways.now
    c.loop-way.way-index _
    c.rules_of_way.result.now [] c.loop-way.list.items c.add_apart.new.list.items c.loop-way-test.true
    c.rules_of_way.ensures c.loop-way.invariant c.in_ok-add_apart.ensures

pub returns : goal.returns
returns g c =
    let M = g.M.World.objects c.args.network.now.world.now in
    let past = c.loop-way-test.false in
    let listed = subst (λ (l : List WayId). GainsApart c.args.known.now (IsOnSome M l) [] c.loop-way.list.items)
    (take_all c.loop-way.way-index c.args.ways.now (omega arith)) c.loop-way.invariant in
    relations_listed M c.args.known.now c.args.ways.now c.loop-way.list.items c.leave_once.new.list.items listed
    c.leave_once.ensures.exactly
