-- The words that begin on the drive's steps, from the restrictions of its ways, are all.
use Rattle.std.proofs.Common.{◌↔◌, List, refl, sym, subst, ◌∙◌, slice_index_or, Contains}
use Rattle.std.proofs.lemmas.List.Elements.{Contains-get_or}
use Rattle.road_base.specs.declared.ids.WayId.{WayId}
use Rattle.road_base.specs.declared.ids.RelationId.{RelationId}
use Rattle.road_base.specs.declared.ids.Step.{Step}
use Rattle.restrictions.specs.declared.word_list.Word.{Word}
use Rattle.drive_judging.specs.Tables.{AreDriveWords}
use Rattle.drive_judging.specs.DriveWords.{AreWordsOn, AreInWordOrder, IsMemberOf}
use Rattle.drive_judging.proofs.WordsGathered.{restrict, table, table_again}
use Rattle.drive_judging.proofs.word_table.table_on.Goals as goal

pub words_of-requires-clause-restrictions : goal.words_of-requires-clause-restrictions
words_of-requires-clause-restrictions g c k d within =
    let M = g.M.World.objects c.args.network.now.world.now in
    let has = Contains-get_or c.as_slice-3.result.now k d within in
    let listed = subst (λ (l : List RelationId). Contains l (slice_index_or c.as_slice-3.result.now k d))
    c.as_slice-3.ensures.value has in
    let P = g.P.Profile.rules c.args.network.now.profile in
    restrict M P c.as_slice-2.result.now _ ((c.in_ok-relations.ensures _).0 listed)

pub returns : goal.returns
returns g c =
    let M = g.M.World.objects c.args.network.now.world.now in
    let P = g.P.Profile.rules c.args.network.now.profile in
    let ways = c.in_ok-ways.ways.items in
    let relations = c.in_ok-relations.relations.items in
    let steps = c.in_ok-steps.steps.items in
    let words = c.in_ok-words.words.items in
    let on = subst (λ (l : List WayId). (r : RelationId) → Contains relations r ↔ IsMemberOf M l r)
    c.as_slice-2.ensures.value c.in_ok-relations.ensures in
    let of = subst (λ (l : List RelationId). AreWordsOn M P c.as_slice-4.result.now l words)
    c.as_slice-3.ensures.value c.in_ok-words.ensures in
    let are = subst (λ (l : List Step). AreWordsOn M P l relations words) c.as_slice-4.ensures.value of in
    let kept = sym (c.in_ok-automaton.ensures ∙ c.from_list.ensures) in
    let all = table_again M P c.args.drive.now words c.put_in_order.new.words.items c.put_in_order.ensures.same
    (table M P (c.words_on_ways.ensures.members M) c.args.drive.now steps ways relations words c.in_ok-ways.ensures on
    c.in_ok-steps.ensures.same are) in
    record {
      words = subst (λ (l : List Word). AreDriveWords M P c.args.drive.now l) kept all;
      sorted = subst (λ (l : List Word). AreInWordOrder l) kept c.put_in_order.ensures.sorted;
      lines = λ s has. c.in_ok-lines.ensures s.way (subst (λ (l : List WayId). Contains l s.way)
          (sym c.as_slice.ensures.value)
          ((c.in_ok-ways.ensures s.way).1 (record { step = s; among = has; on = refl })));
      leaving = c.in_ok-leaving.ensures;
    }
