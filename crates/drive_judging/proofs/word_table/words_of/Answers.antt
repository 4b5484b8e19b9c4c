-- The words of one restriction more are there, and all at the end.
use Rattle.std.proofs.Common.{List, [], sym, subst, arith}
use Rattle.std.proofs.lemmas.List.{take_all}
use Rattle.road_base.specs.declared.ids.RelationId.{RelationId}
use Rattle.drive_judging.specs.DriveWords.{AreWordsOn}
use Rattle.drive_judging.proofs.WordsGathered.{words_more, words_none}
use Rattle.drive_judging.proofs.word_table.words_of.Goals as goal

pub loop-relation-init : goal.loop-relation-init
loop-relation-init g c =
    let M = g.M.World.objects c.args.network.now.world.now in
    let P = g.P.Profile.rules c.args.network.now.profile in
    subst (AreWordsOn M P c.args.steps.now []) (sym c.new-list.ensures.items) (words_none M P c.args.steps.now)

pub loop-relation-preserved : goal.loop-relation-preserved
loop-relation-preserved g c =
    words_more (g.M.World.objects c.args.network.now.world.now) (g.P.Profile.rules c.args.network.now.profile)
    c.args.steps.now
    c.args.relations.now c.loop-relation.relation-index _ c.loop-relation.list.items c.add_words.new.list.items
    c.loop-relation-test.true c.loop-relation.invariant c.in_ok-add_words.ensures

pub returns : goal.returns
returns g c =
    let M = g.M.World.objects c.args.network.now.world.now in
    let P = g.P.Profile.rules c.args.network.now.profile in
    subst (λ (l : List RelationId). AreWordsOn M P c.args.steps.now l c.loop-relation.list.items)
    (take_all c.loop-relation.relation-index c.args.relations.now
    (let past = c.loop-relation-test.false in omega arith)) c.loop-relation.invariant
