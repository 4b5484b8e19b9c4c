-- One node more is there, and all at the end.
use Rattle.std.proofs.Common.{List, subst, arith}
use Rattle.std.proofs.lemmas.List.{take_all}
use Rattle.road_base.specs.declared.ids.NodeId.{NodeId}
use Rattle.drive_judging.specs.DeadEnds.{AreUnknown}
use Rattle.drive_judging.proofs.NodesLeft.{unknown_more}
use Rattle.drive_judging.proofs.dead_ends.unknown.Goals as goal

pub loop-node-preserved : goal.loop-node-preserved
loop-node-preserved c =
    unknown_more c.args.nodes.now c.loop-node.node-index _ c.loop-node.known c.insert.new.self c.loop-node-test.true
    c.number_order.ensures.node_ties c.in_ok-insert.ensures.updates c.loop-node.invariant

pub returns : goal.returns
returns c = subst (λ (l : List NodeId). AreUnknown l c.loop-node.known)
    (take_all c.loop-node.node-index c.args.nodes.now (let past = c.loop-node-test.false in omega arith))
    c.loop-node.invariant
