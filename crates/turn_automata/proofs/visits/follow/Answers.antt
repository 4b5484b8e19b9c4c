use Rattle.std.proofs.Common.{◌≡◌, ◌+◌, length, refl, sym, subst}
use Rattle.std.proofs.lemmas.Option.{slice_get_read}
use Rattle.turn_automata.specs.Visits.{IsLast, IsNext, AreFollowed}
use Rattle.ordered_lists.proofs.ListPlaces.{some_is, none_is, contains_at}
use Rattle.turn_automata.proofs.WordVisits.{follow_last, follow_next, less_work, less_work_next}
use Rattle.turn_automata.proofs.visits.follow.Goals as goal

pub returns-in_ok-push-in-Some-clause-followed : goal.returns-in_ok-push-in-Some-clause-followed
returns-in_ok-push-in-Some-clause-followed c =
    let W = c.args.words.now in
    let v = c.index.result.now in
    let at = slice_get_read c.args.visits.now.items (length c.args.visits.now.items) c.args.at v refl c.requires.within
    c.index.ensures in
    let next = some_is (IsNext W c.args.tree.now v c.next_of.new.tree) c.in_ok-next.field-0 c.in-Some.next c.in-Some.is
    c.in_ok-next.ensures.some in
    subst (λ vs. AreFollowed W c.next_of.new.tree vs (c.args.at + 1)) (sym c.in_ok-push-in-Some.ensures.items)
    (follow_next W c.args.tree.now c.args.visits.now.items c.args.at c.requires.before v at c.next_of.new.tree
    c.in-Some.next next)

pub returns-in_ok-push-in-Some-clause-less : goal.returns-in_ok-push-in-Some-clause-less
returns-in_ok-push-in-Some-clause-less c =
    let W = c.args.words.now in
    let v = c.index.result.now in
    let at = slice_get_read c.args.visits.now.items (length c.args.visits.now.items) c.args.at v refl c.requires.within
    c.index.ensures in
    let next = some_is (IsNext W c.args.tree.now v c.next_of.new.tree) c.in_ok-next.field-0 c.in-Some.next c.in-Some.is
    c.in_ok-next.ensures.some in
    less_work_next W c.args.tree.now c.args.visits.now.items c.args.at v at
    (c.requires.before.sound v (contains_at c.args.visits.now.items c.args.at v at)) c.push.new.self.items
    c.in-Some.next c.in_ok-push-in-Some.ensures.items next.of next.depth

pub returns-in-None-clause-followed : goal.returns-in-None-clause-followed
returns-in-None-clause-followed c =
    let W = c.args.words.now in
    let v = c.index.result.now in
    let at = slice_get_read c.args.visits.now.items (length c.args.visits.now.items) c.args.at v refl c.requires.within
    c.index.ensures in
    let last = none_is (IsLast W v × (c.next_of.new.tree ≡ c.args.tree.now)) c.in_ok-next.field-0 c.in-None.is
    c.in_ok-next.ensures.none in
    subst (λ ps. AreFollowed W ps c.args.visits.now.items (c.args.at + 1)) (sym last.1)
    (follow_last W c.args.tree.now c.args.visits.now.items c.args.at c.requires.before v at last.0)

pub returns-in-None-clause-less : goal.returns-in-None-clause-less
returns-in-None-clause-less c =
    let W = c.args.words.now in
    let v = c.index.result.now in
    let at = slice_get_read c.args.visits.now.items (length c.args.visits.now.items) c.args.at v refl c.requires.within
    c.index.ensures in
    less_work W c.args.tree.now c.args.visits.now.items c.args.at v at
    (c.requires.before.sound v (contains_at c.args.visits.now.items c.args.at v at))
