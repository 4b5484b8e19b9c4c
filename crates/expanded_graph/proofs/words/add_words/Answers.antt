-- The words of the restriction are added, which are none where it is of no use.
use Rattle.std.proofs.Common.{[], sym, subst, append-nil}
use Rattle.restrictions.specs.Words.{AreWords}
use Rattle.ordered_lists.proofs.ListMembers.{contains_none}
use Rattle.expanded_graph.proofs.words.add_words.Goals as goal
use Rattle.restrictions.proofs.UselessRelations.{no_words_of}

pub returns-in_ok-append-in-Ok : goal.returns-in_ok-append-in-Ok
returns-in_ok-append-in-Ok g c =
    let M = g.M.World.objects c.args.network.now.world.now in
    let P = g.P.Profile.rules c.args.network.now.profile in
    let more = c.into_list-more.result.items in
    let words : AreWords M P c.args.relation more =
    subst (AreWords M P c.args.relation) (sym c.into_list-more.ensures) c.in-Ok.ensures.words in
    record { more = more; appended = c.in_ok-append-in-Ok.ensures.items; exactly = λ u. (words.each u, words.all u) }

pub returns-in-Err-Unusable : goal.returns-in-Err-Unusable
returns-in-Err-Unusable g c =
    let M = g.M.World.objects c.args.network.now.world.now in
    let P = g.P.Profile.rules c.args.network.now.profile in
    record {
      more = [];
      appended = sym (append-nil c.args.list.now.items);
      exactly = λ u. (
        λ h. absurd (contains_none u h),
        λ h. absurd (no_words_of M P c.args.relation _ _ c.in-Err-Unusable.field-0-is
            c.in-Err-Unusable.ensures.cause u h),
      );
    }
