-- The starts of a way's pieces are its departures.
use Rattle.std.proofs.Common.{◌≡◌, ℕ, suc, ◌+◌, ◌-◌, ◌<◌, List, ◌∷◌, length, map, get_or, Some, IsTrue, refl, sym, ap}
use Rattle.std.proofs.Common.{subst, ◌∙◌, arith}
use Rattle.std.specs.Cmp.{IsTotalOrder}
use Rattle.std.specs.FinMap.{IsAntisymmetric}
use Rattle.std.specs.List.{All}
use Rattle.std.specs.List.Sorted.{IsSortedByKey, IsStableByKey}
use Rattle.std.proofs.lemmas.List.Elements.{Contains-get_or}
use Rattle.road_base.specs.declared.ids.NodeId.{NodeId}
use Rattle.road_base.specs.declared.ids.WayId.{WayId}
use Rattle.road_base.specs.declared.ids.Step.{Step}
use Rattle.road_base.specs.declared.ids.Dir.{Dir}
use Rattle.road_base.specs.declared.ids.Dir.TheVariants.{Forward, Backward}
use Rattle.road_base.specs.Objects.{Objects}
use Rattle.road_model.specs.Rules.{Rules}
use Rattle.road_model.specs.Lines.{line_of, node_at, tail_of, head_of, forward_steps, backward_steps, steps_from}
use Rattle.road_model.specs.Driving.{is_road}
use Rattle.way_lines.specs.declared.road_line.LineNode.{LineNode}
use Rattle.way_lines.specs.RoadLines.{line_node}
use Rattle.ordered_lists.specs.Orders.{Lists}
use Rattle.road_model.specs.Orders.{node_cmp, name_cmp}
use Rattle.way_pieces.specs.declared.spans.PieceSpan.{PieceSpan}
use Rattle.way_pieces.specs.declared.departures.Departure.{Departure}
use Rattle.way_pieces.specs.declared.at_nodes.AtNode.{AtNode}
use Rattle.way_pieces.specs.Names.{IsDeparture, IsSpanOn, piece_of}
use Rattle.way_pieces.specs.Departures.{IsOver}
use Rattle.way_pieces.specs.RoadPieces.{AreStarts}
use Rattle.way_pieces.specs.Starts.{IsWithin, no_node, node_in, start_toward, start_on}
use Rattle.way_pieces.proofs.AtNodes.{by_node}
use Rattle.way_pieces.proofs.SpanOrder.{span_of}
use Rattle.ordered_lists.proofs.Splits.{same_head}
use Rattle.way_pieces.proofs.DepartureLists.{name_way}
use Rattle.way_pieces.proofs.DrivenSteps.{as_long, named_end, node_there, piece_last, piece_road}
use Rattle.junctions.proofs.Positions.{some_same}

-- ---- what a start has of its piece

abbrev pub span : WayId → ℕ → ℕ → Dir → PieceSpan
span w i j d = record { name = record { way = w; index = i; dir = d }; end = j }

name_is : (nodes : List LineNode) (s : PieceSpan) (d : Dir) → (start_toward nodes s d).item.piece ≡ s.name
name_is nodes s Forward = refl
name_is nodes s Backward = refl

way_is : (nodes : List LineNode) (s : PieceSpan) (d : Dir) → (start_toward nodes s d).item.first.way ≡ s.name.way
way_is nodes s Forward = refl
way_is nodes s Backward = refl

-- a piece begins with its start's step
begins_with : (nodes : List LineNode) (w : WayId) (i j : ℕ) (d : Dir) → i < j
    → (more : List Step) × (steps_from w i (j - i) d ≡ (start_on nodes (span w i j d)).item.first ∷ more)
begins_with nodes w i j Forward up =
    let n : j - i ≡ suc (j - i - 1) = omega arith in
    (forward_steps w (i + 1) (j - i - 1), ap (λ k. forward_steps w i k) n)
begins_with nodes w i j Backward up =
    let n : j - i ≡ suc (j - i - 1) = omega arith in
    let last : i + (j - i - 1) ≡ j - 1 = omega arith in
    let first : ℕ → Step = λ k. record { way = w; index = k; dir = Backward } in (
      backward_steps w i (j - i - 1),
      ap (λ k. backward_steps w i k) n
          ∙ ap (λ k. first k ∷ backward_steps w i (j - i - 1)) last,
    )

module _ (M : Objects) (P : Rules) (nodes : List LineNode) (w : WayId)
    (line : nodes ≡ map (line_node M P) (line_of M w)) where
  pub line_within : (k : ℕ) → k < length nodes → k < length (line_of M w)
  line_within k within = let same = as_long M P w nodes line in omega arith

  pub there : (k : ℕ) → k < length nodes → node_at M w k ≡ Some (node_in nodes k)
  there k within = node_there M P w nodes line k no_node within

  leaves : (i j : ℕ) (d : Dir) → i < j → j < length nodes
      → tail_of M (start_on nodes (span w i j d)).item.first ≡ Some (start_on nodes (span w i j d)).node
  leaves i j Forward up within =
      named_end M (record { way = w; index = i; dir = Forward }) i (line_within (i + 1) (omega arith))
      ∙ there i (omega arith)
  leaves i j Backward up within =
      let same : j ≡ j - 1 + 1 = omega arith in
      named_end M (record { way = w; index = j - 1; dir = Backward }) (j - 1 + 1)
      (line_within (j - 1 + 1) (omega arith))
      ∙ subst (λ k. node_at M w k ≡ Some (node_in nodes j)) same (there j within)

  toward : (i j : ℕ) (d : Dir) → i < j → j < length nodes
      → head_of M (start_on nodes (span w i j d)).item.first
      ≡ Some (start_on nodes (span w i j d)).item.toward
  toward i j Forward up within =
      named_end M (record { way = w; index = i; dir = Forward }) (i + 1) (line_within (i + 1) (omega arith))
      ∙ there (i + 1) (omega arith)
  toward i j Backward up within =
      named_end M (record { way = w; index = j - 1; dir = Backward }) (j - 1) (line_within (j - 1 + 1) (omega arith))
      ∙ there (j - 1) (omega arith)

module _ (M : Objects) (P : Rules) (w : WayId) (nodes : List LineNode)
    (line : IsTrue (is_road M P w) → nodes ≡ map (line_node M P) (line_of M w)) where
  pub line_by : (s : PieceSpan) → IsSpanOn M P w s → nodes ≡ map (line_node M P) (line_of M s.name.way)
  line_by s on =
      line (subst (λ v. IsTrue (is_road M P v)) on.of (piece_road M P (piece_of s) on.is))
      ∙ ap (λ v. map (line_node M P) (line_of M v)) (sym on.of)

  -- the line reaches so far
  pub within : (s : PieceSpan) → IsSpanOn M P w s → IsWithin (length nodes) s
  within s on =
      let last = (piece_last M P (piece_of s) on.is).on_line in
      let same = as_long M P s.name.way nodes (line_by s on) in
      ((on.is).ascends, omega arith)

  pub all_within : (spans : List PieceSpan) → Lists (λ s. s.name) name_cmp (IsSpanOn M P w) spans
      → All (IsWithin (length nodes)) spans
  all_within spans lists k d inside = within (get_or spans k d)
      (lists.sound (get_or spans k d) (Contains-get_or spans k d inside))

  -- a piece's start is a departure
  start_departs : (s : PieceSpan) → IsSpanOn M P w s
      → IsDeparture M P (start_on nodes s).node (start_on nodes s).item
  start_departs s on =
      let fits = within s on in
      let opening = begins_with nodes s.name.way s.name.index s.end s.name.dir fits.0 in
      record {
        piece = piece_of s;
        is = on.is;
        named = name_is nodes s s.name.dir;
        more = opening.0;
        begins = opening.1;
        leaves = leaves M P nodes s.name.way (line_by s on) s.name.index s.end s.name.dir fits.0 fits.1;
        toward = toward M P nodes s.name.way (line_by s on) s.name.index s.end s.name.dir fits.0 fits.1;
      }

  start_over : (s : PieceSpan) → IsSpanOn M P w s → IsOver M P (start_on nodes s).node w (start_on nodes s).item
  start_over s on = (way_is nodes s s.name.dir ∙ on.of, start_departs s on)

  -- each departure over the way is a piece's start
  module _ (v : NodeId) (z : Departure) (is_over : IsOver M P v w z) where
    abbrev own : PieceSpan
    own = span_of (is_over.1).piece

    own_span : IsSpanOn M P w own
    own_span = record {
      of = sym (ap (λ n. n.way) (is_over.1).named)
          ∙ (name_way M P v z is_over.1 ∙ is_over.0);
      is = (is_over.1).is;
    }

    same_first : (start_on nodes own).item.first ≡ z.first
    same_first =
        let opening = begins_with nodes own.name.way own.name.index own.end own.name.dir ((is_over.1).is).ascends in
        same_head (start_on nodes own).item.first z.first opening.0 (is_over.1).more
        (sym opening.1 ∙ (is_over.1).begins)

    same_start_node : (start_on nodes own).node ≡ v
    same_start_node = some_same (start_on nodes own).node v
        (sym (start_departs own own_span).leaves ∙ (ap (tail_of M) same_first ∙ (is_over.1).leaves))

    same_departure : (start_on nodes own).item ≡ z
    same_departure =
        let toward = some_same (start_on nodes own).item.toward z.toward
        (sym (start_departs own own_span).toward ∙ (ap (head_of M) same_first ∙ (is_over.1).toward)) in
        let name : (start_on nodes own).item.piece ≡ z.piece = name_is nodes own own.name.dir
        ∙ sym (is_over.1).named in
        λ x. record { piece = name x; first = same_first x; toward = toward x }

-- ---- the starts of a way

module _ (M : Objects) (P : Rules) (w : WayId) (names : IsTotalOrder name_cmp) (total : IsTotalOrder node_cmp)
    (exact : IsAntisymmetric node_cmp) where
  -- the starts of its pieces, sorted
  pub are_starts : (nodes : List LineNode) → (IsTrue (is_road M P w) → nodes ≡ map (line_node M P) (line_of M w))
      → (spans : List PieceSpan) → Lists (λ s. s.name) name_cmp (IsSpanOn M P w) spans
      → (old new : List (AtNode Departure)) → old ≡ map (start_on nodes) spans
      → IsSortedByKey (λ s. s.node) node_cmp new → IsStableByKey (λ s. s.node) node_cmp old new
      → AreStarts M P w new
  are_starts nodes line spans lists =
      by_node (λ d. d.piece) (start_on nodes) (λ s. name_is nodes s s.name.dir) (λ v. IsOver M P v w) names total exact
      (IsSpanOn M P w) spans lists (start_over M P w nodes line)
      (λ v z over. (
        own M P w nodes line v z over,
        (
          own_span M P w nodes line v z over,
          (same_start_node M P w nodes line v z over, same_departure M P w nodes line v z over),
        ),
      ))
