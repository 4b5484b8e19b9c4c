-- The roads that pass the node are among the ways at it, and these were all looked at.
use Rattle.std.proofs.Common.{◌≡◌, List, IsTrue, Contains, take, get_or, pos, inl, inr, refl, sym, subst, ◌∙◌, arith}
use Rattle.std.proofs.lemmas.Bool.{false≢true}
use Rattle.std.proofs.lemmas.List.{take_all}
use Rattle.std.proofs.lemmas.List.Elements.{Contains-get_or}
use Rattle.road_base.specs.declared.ids.WayId.{WayId}
use Rattle.road_model.specs.Driving.{is_road}
use Rattle.ordered_lists.proofs.JoinedLists.{one_more}
use Rattle.junctions.proofs.RoadNodes.{passes}
use Rattle.junctions.proofs.plain.is_on_other.Goals as goal

pub returns-then-is_other_road : goal.returns-then-is_other_road
returns-then-is_other_road g c =
    let M = g.M.World.objects c.args.network.now.world.now in
    let items = c.ways_at-other-items.result.now in
    let i = c.loop-other.other-index in
    let d : WayId = record { 0 = pos 0 } in
    let listed = Contains-get_or items i d c.loop-other-test.true in
    let link = c.ways_at-other-items.ensures.sound (get_or items i d) listed in
    let at = passes M (get_or items i d) c.args.node link in (
      λ no. absurd (false≢true (sym no)),
      λ all. c.if-is_other_road.ensures.1 (λ road. all (get_or items i d) at.0 road at.1),
    )

pub loop-other-preserved : goal.loop-other-preserved
loop-other-preserved g c = λ v has road.
    let items = c.ways_at-other-items.result.now in
    let i = c.loop-other.other-index in
    let d : WayId = record { 0 = pos 0 } in
    let here = c.if-is_other_road.ensures.0 refl in
    let M = g.M.World.objects c.args.network.now.world.now in
    let P = g.P.Profile.rules c.args.network.now.profile in
    elim (one_more items i d v c.loop-other-test.true has) [
      | inl same ↦ same ∙ here (subst (λ w. IsTrue (is_road M P w)) same road)
      | inr before ↦ c.loop-other.invariant v before road
    ]

pub returns : goal.returns
returns g c =
    let M = g.M.World.objects c.args.network.now.world.now in
    let ways = c.ways_at-other-items.result.now in
    let past = c.loop-other-test.false in
    let whole : take c.loop-other.other-index ways ≡ ways = take_all c.loop-other.other-index ways (omega arith) in (
      λ yes v j road at.
          let link = c.roads_refer.ensures.passed M v j c.args.node road at in
          let listed = c.ways_at-other-items.ensures.complete v link in
          c.loop-other.invariant v (subst (λ (ws : List WayId). Contains ws v) (sym whole) listed) road,
      λ h. refl,
    )
