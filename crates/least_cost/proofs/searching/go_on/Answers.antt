use Rattle.std.proofs.Common.{Contains, get_or, subst, sym, pos, take}
use Rattle.std.proofs.lemmas.List.Elements.{Contains-get_or}
use Rattle.graph_blocks.specs.Lent.{map_of as block_map}
use Rattle.road_model.specs.declared.lists.TurnArc.{TurnArc}
use Rattle.road_base.specs.declared.ids.Dir.TheVariants.{Forward}
use Rattle.context_search.specs.Marks.{at_of}
use Rattle.context_search.specs.Listed.{contexts_in}
use Rattle.least_cost.specs.CostVisits.{AreFollowed}
use Rattle.least_cost.proofs.LeastVisits.{grows_same, grows_again, arc_visiting, arc_grows, arc_followed, more_followed}
use Rattle.least_cost.proofs.LeastVisits.{all_followed, followed_stays}
use Rattle.least_cost.proofs.searching.go_on.Goals as goal

abbrev no_arc : TurnArc
no_arc = record { piece = record { way = record { 0 = pos 0 }; index = 0; dir = Forward }; length = 0 }

pub follow-requires-clause-listed : goal.follow-requires-clause-listed
follow-requires-clause-listed c = c.requires.search.listed c.args.place c.args.visit.now c.requires.at

pub follow-requires-clause-has : goal.follow-requires-clause-has
follow-requires-clause-has c =
    let items = c.items-arc-items.result.now in
    subst (λ l. Contains l (get_or items c.loop-arc.arc-index no_arc)) c.items-arc-items.ensures
    (Contains-get_or items c.loop-arc.arc-index no_arc c.loop-arc-test.true)

pub loop-arc-preserved : goal.loop-arc-preserved
loop-arc-preserved c =
    let L = contexts_in (block_map c.args.blocks.now) in
    let old = c.loop-arc.invariant in
    let m = c.loop-arc.search in
    let n = c.follow.new.search in
    let v = c.args.visit.now in
    let x = at_of v.spot in
    let items = c.items-arc-items.result.now in
    let arc = get_or items c.loop-arc.arc-index no_arc in
    let f = c.in_ok-follow.ensures in
    let at = old.grows.visits.stays c.args.place v c.requires.at in
    let has = subst (λ l. Contains l arc) c.items-arc-items.ensures
    (Contains-get_or items c.loop-arc.arc-index no_arc c.loop-arc-test.true) in
    let grows = arc_grows L c.args.place v arc m n f at has in
    record {
      search = arc_visiting L c.args.place v arc m n f old.search;
      grows = grows_again c.args.search.now m n old.grows grows;
      followed = more_followed L n.visits x v.cost items c.loop-arc.arc-index no_arc c.loop-arc-test.true
          (arc_followed L c.args.place v arc m n f)
          (followed_stays m.visits n.visits grows.visits.stays L x v.cost (take c.loop-arc.arc-index items)
          old.followed);
    }

pub returns-clause-followed : goal.returns-clause-followed
returns-clause-followed c =
    let L = contexts_in (block_map c.args.blocks.now) in
    let v = c.args.visit.now in
    subst (λ l. AreFollowed L c.loop-arc.search.visits (at_of v.spot) v.cost l) c.items-arc-items.ensures
    (all_followed L c.loop-arc.search.visits (at_of v.spot) v.cost c.items-arc-items.result.now c.loop-arc.arc-index
    c.loop-arc-test.false c.loop-arc.invariant.followed)
