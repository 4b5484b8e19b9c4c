-- Of the words of the restriction those that begin on the steps are added; there are none where it is of no use.
use Rattle.std.proofs.Common.{[], sym, subst, append-nil, rules}
use Rattle.restrictions.specs.Words.{AreWords}
use Rattle.restrictions.specs.declared.word_list.Word.{Word}
use Rattle.drive_judging.specs.Tables.{BeginsOn}
use Rattle.ordered_lists.proofs.ListMembers.{contains_none}
use Rattle.restrictions.proofs.UselessRelations.{no_words_of}
use Rattle.drive_judging.proofs.WordsGathered.{kept}
use Rattle.drive_judging.proofs.word_table.add_words.Goals as goal

pub returns-in_ok-append-in-Ok : goal.returns-in_ok-append-in-Ok
returns-in_ok-append-in-Ok g c =
    let M = g.M.World.objects c.args.network.now.world.now in
    let P = g.P.Profile.rules c.args.network.now.profile in
    let all = c.into_list-more.result.items in
    let words : AreWords M P c.args.relation all =
    subst (AreWords M P c.args.relation) (sym c.into_list-more.ensures) c.in-Ok.ensures.words in
    let more = c.retain.new.self.items in
    let left = λ (u : Word). kept _ (λ (w : Word). BeginsOn c.args.steps.now w.steps) _ (λ x b f k. search rules)
    all more
    c.retain.ensures.filtered u in
    record {
      more = more;
      appended = c.in_ok-append-in-Ok.ensures.items;
      exactly = λ u. (
        λ h. let k = (left u).0 h in (words.each u k.0, k.1),
        λ h. (left u).1 (words.all u h.0, h.1),
      );
    }

pub returns-in-Err-Unusable : goal.returns-in-Err-Unusable
returns-in-Err-Unusable g c =
    let M = g.M.World.objects c.args.network.now.world.now in
    let P = g.P.Profile.rules c.args.network.now.profile in
    record {
      more = [];
      appended = sym (append-nil c.args.list.now.items);
      exactly = λ u. (
        λ h. absurd (contains_none u h),
        λ h. absurd (no_words_of M P c.args.relation _ _ c.in-Err-Unusable.field-0-is
            c.in-Err-Unusable.ensures.cause u h.0),
      );
    }
