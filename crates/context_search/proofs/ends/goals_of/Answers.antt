use Rattle.std.proofs.Common.{◌≡◌, inl, inr, sym, ◌∙◌, ap, subst, List, Contains, take, get_or, pos}
use Rattle.std.specs.FinMap.{get}
use Rattle.std.proofs.lemmas.List.{take_more, take_all}
use Rattle.ordered_lists.proofs.ListMembers.{contains_more}
use Rattle.road_base.specs.declared.ids.WayId.{WayId}
use Rattle.road_model.specs.declared.lists.Piece.{Piece}
use Rattle.context_search.specs.Ends.{Arrives, pieces_in}
use Rattle.context_search.specs.Visits.{goal_in}
use Rattle.context_search.proofs.SearchGoalsOf.{are_goals, named_in, same_way}
use Rattle.graph_blocks.specs.Lent.{map_of}
use Rattle.context_search.proofs.ends.goals_of.Goals as goal

abbrev no_way : WayId
no_way = record { 0 = pos 0 }

pub loop-way-preserved : goal.loop-way-preserved
loop-way-preserved g c =
    let M = g.M.World.objects c.args.network.now.world.now in
    let P = g.P.Profile.rules c.args.network.now.profile in
    let o = c.name_order.ensures in
    let m = map_of c.args.blocks.now in
    let ways = c.ways_at-way-items.result.now in
    let k = c.loop-way.way-index in
    let w = get_or ways k no_way in
    let node = c.args.node in
    let pieces = c.pieces_of.result.now in
    let was = c.loop-way.goals in
    let now = c.add_goals.new.goals in
    let old = c.loop-way.invariant in
    let more = c.in_ok-add_goals.ensures in
    let on_way = c.pieces_of.ensures in
    record {
      sound = λ n h is. elim (named_in o.names o.name_ties n pieces) [
        | inl r ↦ elim (more.new r.0 h r.1 (ap (goal_in now) r.2 ∙ is)) [
          | inl before ↦ old.sound n h (sym (ap (goal_in was) r.2) ∙ before)
          | inr new ↦ (
            w,
            subst (λ (e : Piece). Contains (pieces_in (get m w)) e) (sym new.0)
                (subst (λ (l : List Piece). Contains l r.0) on_way r.1),
            ap (λ (e : Piece). e.name) new.0 ∙ r.2,
            subst (λ (e : Piece). Arrives e h.last node) (sym new.0) new.1,
          )
        ]
        | inr none ↦ old.sound n h (sym (more.others n none) ∙ is)
      ];
      complete = λ v e j has there l. elim (named_in o.names o.name_ties e.name pieces) [
        | inl r ↦
            let same : v ≡ w = same_way M P m c.requires v w e r.0 there
            (subst (λ (xs : List Piece). Contains xs r.0) on_way r.1) r.2 in
            more.all e j (subst (λ (xs : List Piece). Contains xs e) (sym on_way)
            (subst (λ (z : WayId). Contains (pieces_in (get m z)) e) same there)) l
        | inr none ↦ elim (contains_more (take k ways) w v
            (subst (λ (xs : List WayId). Contains xs v) (take_more ways k no_way c.loop-way-test.true) has)) [
              | inl before ↦ let r = old.complete v e j before there l in (r.0, more.others e.name none ∙ r.1, r.2)
              | inr same ↦ more.all e j
                  (subst (λ (xs : List Piece). Contains xs e) (sym on_way)
                  (subst (λ (z : WayId). Contains (pieces_in (get m z)) e) same there)) l
            ]
      ];
    }

pub returns : goal.returns
returns g c =
    let M = g.M.World.objects c.args.network.now.world.now in
    let P = g.P.Profile.rules c.args.network.now.profile in
    let ways = c.ways_at-way-items.result.now in
    let inv = c.loop-way.invariant in
    are_goals M P (map_of c.args.blocks.now) c.requires (c.one_name.ensures.pieces M)
    (c.has_block.ensures M) c.args.node ways c.loop-way.goals c.ways_at-way-items.ensures.complete
    (c.roads_refer.ensures.passed M) inv.sound
    (λ w e j h. inv.complete w e j (subst (λ (xs : List WayId). Contains xs w)
    (sym (take_all c.loop-way.way-index ways c.loop-way-test.false)) h))
