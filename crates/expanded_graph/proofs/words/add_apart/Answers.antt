-- One item more was looked at.
use Rattle.expanded_graph.proofs.WordsNear.{apart_more}
use Rattle.expanded_graph.proofs.words.add_apart.Goals as goal

pub loop-item-preserved : goal.loop-item-preserved
loop-item-preserved g c =
    apart_more c.args.known.now c.args.items.now c.loop-item.item-index c.item-item.result c.args.list.now.items
    c.loop-item.list.items c.add_one_apart.new.list.items c.loop-item-test.true c.item-item.is c.loop-item.invariant
    c.in_ok-add_one_apart.ensures
