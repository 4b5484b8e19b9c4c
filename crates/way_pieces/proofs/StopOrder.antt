-- The ends of a way's pieces are its arrivals.
use Rattle.std.proofs.Common.{◌≡◌, ℕ, zero, suc, ◌+◌, ◌-◌, ◌<◌, List, [], ◌∷◌, ◌++◌, length, map, Some, IsTrue}
use Rattle.std.proofs.Common.{refl, sym, ap, subst, ◌∙◌, arith, add-zero}
use Rattle.std.specs.Cmp.{IsTotalOrder}
use Rattle.std.specs.FinMap.{IsAntisymmetric}
use Rattle.std.specs.List.Sorted.{IsSortedByKey, IsStableByKey}
use Rattle.std.proofs.lemmas.List.{same_from_push}
use Rattle.road_base.specs.declared.ids.NodeId.{NodeId}
use Rattle.road_base.specs.declared.ids.WayId.{WayId}
use Rattle.road_base.specs.declared.ids.Step.{Step}
use Rattle.road_base.specs.declared.ids.Dir.{Dir}
use Rattle.road_base.specs.declared.ids.Dir.TheVariants.{Forward, Backward}
use Rattle.road_base.specs.Objects.{Objects}
use Rattle.road_model.specs.Rules.{Rules}
use Rattle.road_model.specs.Lines.{line_of, node_at, tail_of, head_of, forward_steps, backward_steps, steps_from}
use Rattle.road_model.specs.Driving.{is_road}
use Rattle.ordered_lists.specs.Orders.{Lists}
use Rattle.road_model.specs.Orders.{node_cmp, name_cmp}
use Rattle.way_lines.specs.declared.road_line.LineNode.{LineNode}
use Rattle.way_lines.specs.RoadLines.{line_node}
use Rattle.way_pieces.specs.declared.arrivals.Arrival.{Arrival}
use Rattle.way_pieces.specs.declared.at_nodes.AtNode.{AtNode}
use Rattle.way_pieces.specs.declared.spans.PieceSpan.{PieceSpan}
use Rattle.way_pieces.specs.Arrivals.{arriving, IsComingOver}
use Rattle.way_pieces.specs.Names.{Arrives, IsArrival, IsSpanOn, piece_of}
use Rattle.way_pieces.specs.RoadPieces.{AreStops}
use Rattle.way_pieces.specs.Starts.{node_in}
use Rattle.way_pieces.specs.Stops.{stop_on}
use Rattle.way_pieces.proofs.AtNodes.{by_node}
use Rattle.way_pieces.proofs.DrivenSteps.{named_end}
use Rattle.way_pieces.proofs.StartOrder.{span, line_within, there, line_by, within}
use Rattle.junctions.proofs.Positions.{some_same}

-- ---- the last step

abbrev pub step : WayId → Dir → ℕ → Step
step w d k = record { way = w; index = k; dir = d }

-- the position of the last step between two positions
abbrev pub last_index : Dir → ℕ → ℕ → ℕ
last_index Forward i j = j - 1
last_index Backward i j = i

ends_forward : (w : WayId) (i n j : ℕ) → j ≡ i + n
    → (front : List Step) × (forward_steps w i (suc n) ≡ front ++ step w Forward j ∷ [])
ends_forward w i zero j e =
    let same : i ≡ j = omega arith in
    ([], ap (λ k. step w Forward k ∷ []) same)
ends_forward w i (suc n) j e =
    let r = ends_forward w (i + 1) n j (omega arith) in
    (step w Forward i ∷ r.0, ap (λ l. step w Forward i ∷ l) r.1)

ends_backward : (w : WayId) (i n : ℕ)
    → (front : List Step) × (backward_steps w i (suc n) ≡ front ++ step w Backward i ∷ [])
ends_backward w i zero = ([], ap (λ k. step w Backward k ∷ []) (add-zero i))
ends_backward w i (suc n) =
    let r = ends_backward w i n in
    (step w Backward (i + suc n) ∷ r.0, ap (λ l. step w Backward (i + suc n) ∷ l) r.1)

-- a piece ends with the step before its end
pub ends_with : (w : WayId) (i j : ℕ) (d : Dir) → i < j
    → (front : List Step) × (steps_from w i (j - i) d ≡ front ++ step w d (last_index d i j) ∷ [])
ends_with w i j Forward up =
    let n : j - i ≡ suc (j - i - 1) = omega arith in
    let r = ends_forward w i (j - i - 1) (j - 1) (omega arith) in
    (r.0, ap (λ k. forward_steps w i k) n ∙ r.1)
ends_with w i j Backward up =
    let n : j - i ≡ suc (j - i - 1) = omega arith in
    let r = ends_backward w i (j - i - 1) in
    (r.0, ap (λ k. backward_steps w i k) n ∙ r.1)

-- ---- what a piece's end has of it

module _ (M : Objects) (P : Rules) (nodes : List LineNode) (w : WayId)
    (line : nodes ≡ map (line_node M P) (line_of M w)) where
  comes_from : (i j : ℕ) (d : Dir) → i < j → j < length nodes
      → tail_of M (step w d (last_index d i j)) ≡ Some (stop_on nodes (span w i j d)).item.from
  comes_from i j Forward up inside =
      named_end M (step w Forward (j - 1)) (j - 1) (line_within M P nodes w line (j - 1 + 1) (omega arith))
      ∙ there M P nodes w line (j - 1) (omega arith)
  comes_from i j Backward up inside =
      named_end M (step w Backward i) (i + 1) (line_within M P nodes w line (i + 1) (omega arith))
      ∙ there M P nodes w line (i + 1) (omega arith)

  comes_to : (i j : ℕ) (d : Dir) → i < j → j < length nodes
      → head_of M (step w d (last_index d i j)) ≡ Some (stop_on nodes (span w i j d)).node
  comes_to i j Forward up inside =
      let same : j ≡ j - 1 + 1 = omega arith in
      named_end M (step w Forward (j - 1)) (j - 1 + 1) (line_within M P nodes w line (j - 1 + 1) (omega arith))
      ∙ subst (λ k. node_at M w k ≡ Some (node_in nodes j)) same (there M P nodes w line j inside)
  comes_to i j Backward up inside =
      named_end M (step w Backward i) i (line_within M P nodes w line (i + 1) (omega arith))
      ∙ there M P nodes w line i (omega arith)

module _ (M : Objects) (P : Rules) (w : WayId) (nodes : List LineNode)
    (line : IsTrue (is_road M P w) → nodes ≡ map (line_node M P) (line_of M w)) where
  -- a piece's end is an arrival
  stop_arrives : (s : PieceSpan) → IsSpanOn M P w s → IsArrival M P (stop_on nodes s).node (stop_on nodes s).item
  stop_arrives s on =
      let fits = within M P w nodes line s on in
      let by = line_by M P w nodes line s on in
      let closing = ends_with s.name.way s.name.index s.end s.name.dir fits.0 in
      record {
        is = on.is;
        arrives = record {
          front = closing.0;
          last = step s.name.way s.name.dir (last_index s.name.dir s.name.index s.end);
          ends = closing.1;
          tail = comes_from M P nodes s.name.way by s.name.index s.end s.name.dir fits.0 fits.1;
          head = comes_to M P nodes s.name.way by s.name.index s.end s.name.dir fits.0 fits.1;
        };
      }

  stop_over : (s : PieceSpan) → IsSpanOn M P w s → IsComingOver M P (stop_on nodes s).node w (stop_on nodes s).item
  stop_over s on = (on.of, stop_arrives s on)

  -- each arrival over the way is a piece's end
  module _ (v : NodeId) (z : Arrival) (over : IsComingOver M P v w z) where
    own_span : IsSpanOn M P w z.span
    own_span = record { of = over.0; is = (over.1).is }

    abbrev own : Arrives M (piece_of z.span) (stop_on nodes z.span).item.from (stop_on nodes z.span).node
    own = (stop_arrives z.span own_span).arrives

    same_last : own.last ≡ (over.1).arrives.last
    same_last = (same_from_push own.front (over.1).arrives.front own.last (over.1).arrives.last
        (sym own.ends ∙ (over.1).arrives.ends)).1

    same_stop_node : (stop_on nodes z.span).node ≡ v
    same_stop_node = some_same (stop_on nodes z.span).node v
        (sym own.head ∙ (ap (head_of M) same_last ∙ (over.1).arrives.head))

    same_arrival : (stop_on nodes z.span).item ≡ z
    same_arrival =
        let from = some_same (stop_on nodes z.span).item.from z.from
        (sym own.tail ∙ (ap (tail_of M) same_last ∙ (over.1).arrives.tail)) in
        λ x. record { span = z.span; from = from x }

-- ---- the ends of a way

module _ (M : Objects) (P : Rules) (w : WayId) (names : IsTotalOrder name_cmp) (total : IsTotalOrder node_cmp)
    (exact : IsAntisymmetric node_cmp) where
  -- the ends of its pieces, sorted
  pub are_stops : (nodes : List LineNode) → (IsTrue (is_road M P w) → nodes ≡ map (line_node M P) (line_of M w))
      → (spans : List PieceSpan) → Lists (λ s. s.name) name_cmp (IsSpanOn M P w) spans
      → (old new : List (AtNode Arrival)) → old ≡ map (stop_on nodes) spans
      → IsSortedByKey (λ s. s.node) node_cmp new → IsStableByKey (λ s. s.node) node_cmp old new
      → AreStops M P w new
  are_stops nodes line spans lists =
      by_node arriving (stop_on nodes) (λ s. refl) (λ v. IsComingOver M P v w) names total exact (IsSpanOn M P w) spans
      lists (stop_over M P w nodes line)
      (λ v z over. (
        z.span,
        (
          own_span M P w nodes line v z over,
          (same_stop_node M P w nodes line v z over, same_arrival M P w nodes line v z over),
        ),
      ))
