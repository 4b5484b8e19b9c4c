use Rattle.std.proofs.Common.{take}
use Rattle.expanded_graph.specs.Known.{AreWordsOf}
use Rattle.expanded_graph.proofs.words.words_of.Given as goal

-- the words of the restrictions so far
abbrev pub invariant-loop-relation : goal.invariant-loop-relation
invariant-loop-relation g l =
    let M = g.M.World.objects l.network.world.now in
    let P = g.P.Profile.rules l.network.profile in
    AreWordsOf M P (take l.relation-index l.relations) l.list.items
