-- The ways at one node more are there, and all at the end.
use Rattle.std.proofs.Common.{◌+◌, List, sym, subst, arith, Contains, take}
use Rattle.std.proofs.lemmas.List.{take_all}
use Rattle.road_base.specs.declared.ids.NodeId.{NodeId}
use Rattle.road_base.specs.declared.ids.WayId.{WayId}
use Rattle.drive_judging.specs.DeadEnds.{HasWaysAt}
use Rattle.drive_judging.proofs.NodesLeft.{ways_at_more}
use Rattle.drive_judging.proofs.dead_ends.ways_at.Goals as goal

pub loop-node-preserved : goal.loop-node-preserved
loop-node-preserved g c =
    let M = g.M.World.objects c.args.world.now in
    subst (λ (l : List WayId). HasWaysAt (take (c.loop-node.node-index + 1) c.args.nodes.now) l M)
    (sym c.in_ok-extend_from_slice.ensures.items)
    (ways_at_more M c.args.nodes.now c.loop-node.node-index _ c.ways_at.result.now c.loop-node.ways.items
    c.loop-node-test.true c.ways_at.ensures c.loop-node.invariant)

pub returns : goal.returns
returns g c v w has refers =
    let all = take_all c.loop-node.node-index c.args.nodes.now (let past = c.loop-node-test.false in omega arith) in
    (c.leave_once.ensures.exactly w).1
    (c.loop-node.invariant v w (subst (λ (l : List NodeId). Contains l v) (sym all) has)
    refers)
