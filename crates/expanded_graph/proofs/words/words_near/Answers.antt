-- The words of the ways' relations, and of those of the ways on which these have steps, are those near the ways.
use Rattle.std.proofs.Common.{◌⊎◌, List, sym, ◌∙◌, subst, Contains}
use Rattle.road_base.specs.declared.ids.WayId.{WayId}
use Rattle.road_base.specs.declared.ids.RelationId.{RelationId}
use Rattle.restrictions.specs.declared.word_list.Word.{Word}
use Rattle.expanded_graph.specs.Near.{AreWordsNear, HasStepOn}
use Rattle.expanded_graph.specs.Known.{AreRelationsOn, AreWordsOf}
use Rattle.expanded_graph.proofs.WordsNear.{all_near, all_sound}
use Rattle.expanded_graph.proofs.words.words_near.Goals as goal

pub returns-clause-words : goal.returns-clause-words
returns-clause-words g c u has =
    let M = g.M.World.objects c.args.network.now.world.now in
    let P = g.P.Profile.rules c.args.network.now.profile in
    let is = c.from_list.ensures ∙ c.in_ok-append.ensures.items in
    all_sound M P c.as_slice.result.now c.in_ok-words.words.items c.in_ok-words.ensures c.as_slice-5.result.now
    c.in_ok-more.more.items c.in_ok-more.ensures u (subst (λ (l : List Word). Contains l u) is has)

pub returns-clause-near : goal.returns-clause-near
returns-clause-near g c w has =
    let M = g.M.World.objects c.args.network.now.world.now in
    let P = g.P.Profile.rules c.args.network.now.profile in
    let ways = c.args.ways.now in
    let own = c.in_ok-own.own.items in
    let words = c.in_ok-words.words.items in
    let others = c.in_ok-others.others.items in
    let further = c.in_ok-further.further.items in
    let more = c.in_ok-more.more.items in
    let are = subst (λ (l : List RelationId). AreWordsOf M P l words) c.as_slice.ensures.value c.in_ok-words.ensures in
    let listed = subst (λ (l : List Word). (u : Word) (v : WayId) → Contains l u → HasStepOn v u.steps
    → Contains ways v ⊎ Contains others v) c.as_slice-2.ensures.value c.in_ok-others.ensures in
    let from = subst (λ (l : List WayId). AreRelationsOn M l c.as_slice-4.result.now further) c.as_slice-3.ensures.value
    c.in_ok-further.ensures in
    let furthers = subst (λ (l : List RelationId). AreRelationsOn M others l further) c.as_slice-4.ensures.value from in
    let are_more = subst (λ (l : List RelationId). AreWordsOf M P l more) c.as_slice-5.ensures.value
    c.in_ok-more.ensures in
    subst (AreWordsNear M P w) (sym (c.from_list.ensures ∙ c.in_ok-append.ensures.items))
    (all_near M P (c.words_on_ways.ensures.members M) ways own c.in_ok-own.ensures words are others listed further
    furthers more are_more w has)
