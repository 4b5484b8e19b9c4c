-- The words of one restriction more stand there.
use Rattle.expanded_graph.proofs.WordsNear.{words_more}
use Rattle.expanded_graph.proofs.words.words_of.Goals as goal

pub loop-relation-preserved : goal.loop-relation-preserved
loop-relation-preserved g c =
    let M = g.M.World.objects c.args.network.now.world.now in
    let P = g.P.Profile.rules c.args.network.now.profile in
    words_more M P c.args.relations.now c.loop-relation.relation-index _ c.loop-relation.list.items
    c.add_words.new.list.items
    c.loop-relation-test.true c.loop-relation.invariant c.in_ok-add_words.ensures
