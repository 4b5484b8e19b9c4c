use Rattle.std.proofs.Common.{take, sym, subst, List}
use Rattle.road_base.specs.declared.ids.NodeId.{NodeId}
use Rattle.junctions.specs.Repeats.{AreMarks, nodes_of}
use Rattle.junctions.proofs.NodeCounts.{take_one}
use Rattle.junctions.proofs.repeats.marks_of.Goals as goal

pub loop-at-preserved : goal.loop-at-preserved
loop-at-preserved c =
    let xs = c.args.line.now in
    let i = c.loop-at.at-index in
    let more = take_one xs i c.at-item.result c.at-item.is c.loop-at-test.true in
    let marked = c.in_ok-mark_node.ensures (nodes_of (take i xs)) c.loop-at.invariant in
    subst (λ (ms : List NodeId). AreMarks ms c.mark_node.new.marks) (sym more) marked
