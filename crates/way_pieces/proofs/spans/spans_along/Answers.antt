-- Each piece begins at a junction and ends at the next one.
use Rattle.std.proofs.Common.{
  ◌≡◌,
  ◌&&◌,
  ℕ,
  ◌+◌,
  ◌-◌,
  ◌<◌,
  Bool,
  true,
  false,
  List,
  length,
  get_or,
  slice_get,
  sym,
  ap,
  subst,
  ◌∙◌,
  arith,
}
use Rattle.road_base.specs.Objects.{Objects}
use Rattle.road_model.specs.Rules.{Rules}
use Rattle.road_model.specs.Lines.{node_at}
use Rattle.road_model.specs.Driving.{located}
use Rattle.ordered_lists.specs.Orders.{Lists}
use Rattle.road_model.specs.Orders.{name_cmp}
use Rattle.junctions.specs.Junctions.{AreJunctions}
use Rattle.way_lines.specs.declared.road_line.LineNode.{LineNode}
use Rattle.way_lines.specs.declared.road_line.RoadLine.{RoadLine}
use Rattle.way_lines.specs.RoadLines.{IsRoadLine}
use Rattle.way_pieces.specs.declared.spans.PieceSpan.{PieceSpan}
use Rattle.way_pieces.specs.declared.stretches.Stretch.{Stretch}
use Rattle.way_pieces.specs.Names.{piece_of, IsSpanOn}
use Rattle.way_pieces.specs.Stretches.{IsStretch, IsSpanBelow, is_located, has_located_ends, both_added}
use Rattle.way_pieces.proofs.SpanOrder.{none_below, below_last, stretch_listed}
use Rattle.ordered_lists.proofs.JoinedLists.{lists_none, lists_same}
use Rattle.way_pieces.proofs.DrivenSteps.{seen_located}
use Rattle.way_pieces.proofs.NeighbourJunctions.{first_listed, stretch_at}
use Rattle.way_pieces.proofs.spans.spans_along.Goals as goal

module _ (M : Objects) (P : Rules) (l : RoadLine) (is : IsRoadLine M P l) (js : List ℕ)
    (are : AreJunctions M P l.road.way js) (at : ℕ) (from : 0 < at) (within : at < length js) where
  -- the stretch before this junction
  abbrev here : Stretch
  here = record { way = l.road.way; index = get_or js (at - 1) 0; end = get_or js at 0 }

  there : IsStretch M P here
  there =
      let same : at - 1 + 1 ≡ at = omega arith in
      subst (λ k. IsStretch M P (record { way = l.road.way; index = get_or js (at - 1) 0; end = get_or js k 0 })) same
      (stretch_at M P l.road.way js are (at - 1) (omega arith))

  known : (ok : Bool) (nodes : List LineNode) → nodes ≡ l.nodes.items → ok ≡ has_located_ends nodes here
      → ok ≡ (located M (node_at M l.road.way here.index) && located M (node_at M l.road.way here.end))
  known ok nodes value told =
      let line = value ∙ is.line there.first.road in
      told
      ∙ ap (λ a. a && is_located (slice_get nodes here.end)) (seen_located M P l.road.way nodes line here.index)
      ∙ ap (λ a. located M (node_at M l.road.way here.index) && a) (seen_located M P l.road.way nodes line here.end)

  -- the pieces below this junction, where both its ends are located
  more : (nodes : List LineNode) → nodes ≡ l.nodes.items → true ≡ has_located_ends nodes here → (xs : List PieceSpan)
      → Lists (λ z. z.name) name_cmp (IsSpanBelow M P l.road.way here.index) xs
      → Lists (λ z. z.name) name_cmp (IsSpanBelow M P l.road.way here.end) (both_added xs l.road here)
  more nodes value told xs lists =
      stretch_listed M P here there true (known true nodes value told) l.road is.directions (λ _. l.road.way) xs lists

  -- and where one isn't
  same : (nodes : List LineNode) → nodes ≡ l.nodes.items → false ≡ has_located_ends nodes here → (xs : List PieceSpan)
      → Lists (λ z. z.name) name_cmp (IsSpanBelow M P l.road.way here.index) xs
      → Lists (λ z. z.name) name_cmp (IsSpanBelow M P l.road.way here.end) xs
  same nodes value told xs lists =
      stretch_listed M P here there false (known false nodes value told) l.road is.directions (λ _. l.road.way) xs lists

pub returns-then-junctions-eq0 : goal.returns-then-junctions-eq0
returns-then-junctions-eq0 g c =
    let M = g.M.World.objects c.args.network.now.world.now in
    let P = g.P.Profile.rules c.args.network.now.profile in
    let w = c.args.line.now.road.way in
    let none = c.if-junctions-eq0.true in
    subst (λ (l : List PieceSpan). Lists (λ z. z.name) name_cmp (IsSpanOn M P w) l) (sym c.new.ensures.items)
    (lists_none (λ z. z.name) name_cmp (IsSpanOn M P w) (λ z on.
    let has = first_listed M P w c.args.junctions.now c.requires.junctions (piece_of z) on.is on.of in
    let within = has.1 in
    omega arith))

pub loop-at-init : goal.loop-at-init
loop-at-init g c =
    let M = g.M.World.objects c.args.network.now.world.now in
    let P = g.P.Profile.rules c.args.network.now.profile in
    let w = c.args.line.now.road.way in
    let js = c.args.junctions.now in
    let Low = IsSpanBelow M P w (get_or js 0 0) in
    let some = c.if-junctions-eq0.false in
    record {
      some = omega arith;
      from = omega arith;
      upto = omega arith;
      listed = subst (λ (l : List PieceSpan). Lists (λ z. z.name) name_cmp Low l) (sym c.in_ok-spans.ensures.items)
          (lists_none (λ z. z.name) name_cmp Low (none_below M P w js c.requires.junctions));
    }

pub loop-at-preserved-then-not-has_located_ends : goal.loop-at-preserved-then-not-has_located_ends
loop-at-preserved-then-not-has_located_ends g c =
    let M = g.M.World.objects c.args.network.now.world.now in
    let P = g.P.Profile.rules c.args.network.now.profile in
    let l = c.args.line.now in
    let js = c.args.junctions.now in
    let at = c.loop-at.at in
    let from = c.loop-at.invariant.from in
    let within = c.loop-at-test.true in
    let next : at ≡ at + 1 - 1 = omega arith in
    record {
      some = c.loop-at.invariant.some;
      from = omega arith;
      upto = omega arith;
      listed = subst (λ k. Lists (λ z. z.name) name_cmp (IsSpanBelow M P l.road.way (get_or js k 0))
          c.loop-at.spans.items) next
          (same M P l c.requires.line js c.requires.junctions at (omega arith) within c.as_slice.result.now
          c.as_slice.ensures.value c.if-not-has_located_ends.ensures c.loop-at.spans.items
          c.loop-at.invariant.listed);
    }

pub loop-at-preserved : goal.loop-at-preserved
loop-at-preserved g c =
    let M = g.M.World.objects c.args.network.now.world.now in
    let P = g.P.Profile.rules c.args.network.now.profile in
    let l = c.args.line.now in
    let js = c.args.junctions.now in
    let at = c.loop-at.at in
    let from = c.loop-at.invariant.from in
    let within = c.loop-at-test.true in
    let next : at ≡ at + 1 - 1 = omega arith in
    let listed = more M P l c.requires.line js c.requires.junctions at (omega arith) within c.as_slice.result.now
    c.as_slice.ensures.value c.if-not-has_located_ends.ensures c.loop-at.spans.items c.loop-at.invariant.listed in
    record {
      some = c.loop-at.invariant.some;
      from = omega arith;
      upto = omega arith;
      listed = subst (λ k. Lists (λ z. z.name) name_cmp (IsSpanBelow M P l.road.way (get_or js k 0))
          c.add_spans.new.spans.items) next
          (subst (λ (xs : List PieceSpan). Lists (λ z. z.name) name_cmp (IsSpanBelow M P l.road.way (get_or js at 0))
          xs) (sym c.in_ok-add_spans.ensures) listed);
    }

pub returns : goal.returns
returns g c =
    let M = g.M.World.objects c.args.network.now.world.now in
    let P = g.P.Profile.rules c.args.network.now.profile in
    let w = c.args.line.now.road.way in
    let xs = c.args.junctions.now in
    let at = c.loop-at.at in
    let from = c.loop-at.invariant.from in
    let upto = c.loop-at.invariant.upto in
    let past = c.loop-at-test.false in
    let last : at - 1 ≡ length xs - 1 = omega arith in
    lists_same (λ z. z.name) name_cmp (IsSpanBelow M P w (get_or xs (at - 1) 0)) (IsSpanOn M P w)
    c.loop-at.spans.items c.loop-at.invariant.listed
    (λ z h. h.1)
    (below_last M P w xs c.requires.junctions (at - 1) last)
