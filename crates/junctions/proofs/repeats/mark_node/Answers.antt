use Rattle.junctions.proofs.NodeCounts.{mark_one}
use Rattle.junctions.proofs.repeats.mark_node.Goals as goal

pub returns : goal.returns
returns c = λ ms marks q. mark_one ms c.args.marks.now c.insert.new.self c.args.node q c.contains_key-again.result
    c.contains_key-again.ensures (c.in_ok-insert.ensures.updates.0 q) marks
