use Rattle.std.proofs.Common.{Contains, get_or, subst, pos}
use Rattle.std.proofs.lemmas.Option.{slice_get_within}
use Rattle.std.proofs.lemmas.List.Elements.{Contains-get_or}
use Rattle.ordered_lists.proofs.ListPlaces.{one_stands}
use Rattle.graph_blocks.specs.Lent.{map_of}
use Rattle.road_model.specs.declared.lists.TurnArc.{TurnArc}
use Rattle.road_base.specs.declared.ids.Dir.TheVariants.{Forward}
use Rattle.context_search.specs.declared.marks.TreeVisit.{TreeVisit}
use Rattle.context_search.specs.Listed.{contexts_in}
use Rattle.context_search.specs.Marks.{at_of}
use Rattle.context_search.specs.Visits.{IsClosed}
use Rattle.context_search.proofs.SearchMarks.{grows_again, begun_again, followed_stays}
use Rattle.context_search.proofs.SearchMarks.{more_followed, all_followed}
use Rattle.context_search.proofs.following.go_on.Goals as goal

abbrev no_arc : TurnArc
no_arc = record { piece = record { way = record { 0 = pos 0 }; index = 0; dir = Forward }; length = 0 }

pub returns-in-Some-clause-met : goal.returns-in-Some-clause-met
returns-in-Some-clause-met g c =
    let items = c.items-arc-items.result.now in
    record {
      visit = c.at-visit.result;
      at = c.loop-arc.invariant.grows.stays c.args.place c.at-visit.result c.at-visit.ensures;
      arc = get_or items c.loop-arc.arc-index no_arc;
      has = subst (λ l. Contains l (get_or items c.loop-arc.arc-index no_arc)) c.items-arc-items.ensures
          (Contains-get_or items c.loop-arc.arc-index no_arc c.loop-arc-test.true);
      met = c.in-Some.ensures.is;
      next = c.in-Some.ensures.goes.0;
      goes = c.in-Some.ensures.goes.1;
    }

pub follow-requires-clause-place : goal.follow-requires-clause-place
follow-requires-clause-place g c = slice_get_within c.loop-arc.search.visits c.args.place c.at-visit.result
    (c.loop-arc.invariant.grows.stays c.args.place c.at-visit.result c.at-visit.ensures)

pub follow-requires-clause-has : goal.follow-requires-clause-has
follow-requires-clause-has g c v at =
    let items = c.items-arc-items.result.now in
    let arc = get_or items c.loop-arc.arc-index no_arc in
    let has : Contains c.at-visit.result.spot.context.now.arcs arc = subst (λ l. Contains l arc)
    c.items-arc-items.ensures (Contains-get_or items c.loop-arc.arc-index no_arc c.loop-arc-test.true) in
    let same = one_stands c.loop-arc.search.visits c.args.place c.at-visit.result v
    (c.loop-arc.invariant.grows.stays c.args.place c.at-visit.result c.at-visit.ensures) at in
    subst (λ (w : TreeVisit). Contains w.spot.context.now.arcs arc) same has

pub loop-arc-preserved : goal.loop-arc-preserved
loop-arc-preserved g c =
    let F = g.F.Phases.rules c.args.phases.now in
    let L = contexts_in (map_of c.args.blocks.now) in
    let old = c.loop-arc.invariant in
    let new = c.in_ok-follow.ensures in
    let m = c.loop-arc.search in
    let n = c.follow.new.search in
    let items = c.items-arc-items.result.now in
    let v = c.at-visit.result in
    record {
      search = new.search;
      grows = grows_again L c.args.search.now m n old.grows new.grows;
      begun = begun_again c.args.search.now m n old.begun new.begun;
      followed = more_followed F L c.args.goals.now n.visits (at_of v.spot) v.phase items c.loop-arc.arc-index no_arc
          c.loop-arc-test.true c.in_default.ensures.none
          (new.passed v (old.grows.stays c.args.place v c.at-visit.ensures))
          (followed_stays m n new.grows.stays F L c.args.goals.now (at_of v.spot) v.phase _ old.followed);
    }

pub returns-clause-met : goal.returns-clause-met
returns-clause-met g c v at =
    let F = g.F.Phases.rules c.args.phases.now in
    let L = contexts_in (map_of c.args.blocks.now) in
    let visits = c.loop-arc.search.visits in
    let mine = c.at-visit.result in
    let same = one_stands c.args.search.now.visits c.args.place mine v c.at-visit.ensures at in
    subst (λ (w : TreeVisit). IsClosed F L c.args.goals.now visits w) same
    (all_followed F L c.args.goals.now visits (at_of mine.spot) mine.phase c.items-arc-items.result.now
    c.loop-arc.arc-index c.loop-arc-test.false c.items-arc-items.ensures c.loop-arc.invariant.followed)
