-- The pieces between neighbouring junctions, added in their order.
use Rattle.std.proofs.Common.{
  ◌≡◌,
  ◌↔◌,
  ◌&&◌,
  ℕ,
  ◌-◌,
  ◌⊎◌,
  inl,
  inr,
  List,
  length,
  get_or,
  Bool,
  IsTrue,
  refl,
  sym,
  ap,
  subst,
  ◌∙◌,
  arith,
}
use Rattle.std.proofs.lemmas.Bool.{and_parts, and_from}
use Rattle.std.specs.Ordering.{is_lt}
use Rattle.road_base.specs.declared.ids.WayId.{WayId}
use Rattle.road_base.specs.declared.ids.Dir.{Dir}
use Rattle.road_base.specs.declared.ids.Dir.TheVariants.{Forward, Backward}
use Rattle.road_base.specs.Objects.{Objects}
use Rattle.road_model.specs.Rules.{Rules}
use Rattle.road_model.specs.Lines.{node_at}
use Rattle.road_model.specs.Driving.{is_open, located}
use Rattle.road_model.specs.Pieces.{Span, IsPiece}
use Rattle.ordered_lists.specs.Orders.{Lists}
use Rattle.road_model.specs.Orders.{name_cmp}
use Rattle.junctions.specs.Junctions.{AreJunctions}
use Rattle.way_lines.specs.declared.roads.Road.{Road}
use Rattle.way_lines.specs.RoadLines.{IsRoad}
use Rattle.way_pieces.specs.declared.spans.PieceSpan.{PieceSpan}
use Rattle.way_pieces.specs.declared.stretches.Stretch.{Stretch}
use Rattle.way_pieces.specs.Names.{piece_of, IsSpanOn}
use Rattle.way_pieces.specs.Stretches.{IsStretch, IsSpanBelow, added, piece_on, span_on}
use Rattle.ordered_lists.proofs.JoinedLists.{lists_added}
use Rattle.ordered_lists.proofs.Decided.{order}
use Rattle.way_pieces.proofs.DrivenSteps.{piece_from, piece_parts}
use Rattle.way_pieces.proofs.NameOrder.{index_next, dir_last}
use Rattle.way_pieces.proofs.NeighbourJunctions.{none_inside, same_piece, not_below_first, not_above_last, first_listed}
use Rattle.way_pieces.proofs.NeighbourJunctions.{last_listed}

abbrev pub span_of : Span → PieceSpan
span_of p = record { name = record { way = p.way; index = p.index; dir = p.dir }; end = p.end }

module _ (M : Objects) (P : Rules) (s : Stretch) (stretch : IsStretch M P s) (f b : Bool)
    (forward : IsTrue f ↔ IsPiece M P (piece_on s Forward)) (backward : IsTrue b ↔ IsPiece M P (piece_on s Backward))
  where
    abbrev Low : PieceSpan → Type 0
    Low z = IsSpanBelow M P s.way s.index z

    abbrev High : PieceSpan → Type 0
    High z = IsSpanBelow M P s.way s.end z

    abbrev Mid : PieceSpan → Type 0
    Mid z = ((z ≡ span_on s Forward) × IsTrue f) ⊎ Low z

    piece_here : (d : Dir) → IsPiece M P (piece_on s d) → High (span_on s d)
    piece_here d is = (stretch.ascends, record { of = refl; is = is })

    low_high : (z : PieceSpan) → Low z → High z
    low_high z low = let below = low.0 in let rises = stretch.ascends in (omega arith, low.1)

    low_below : (d : Dir) (z : PieceSpan) → Low z → IsTrue (is_lt (name_cmp z.name (span_on s d).name))
    low_below d z low = index_next z.name (span_on s d).name (low.1).of low.0

    mid_below : (z : PieceSpan) → Mid z → IsTrue (is_lt (name_cmp z.name (span_on s Backward).name))
    mid_below z (inl (same, is)) = subst (λ (n : PieceSpan). IsTrue (is_lt (name_cmp n.name (span_on s Backward).name)))
        (sym same) (dir_last s.way s.index)
    mid_below z (inr low) = low_below Backward z low

    mid_high : (z : PieceSpan) → Mid z → High z
    mid_high z (inl (same, is)) = subst High (sym same) (piece_here Forward (forward.0 is))
    mid_high z (inr low) = low_high z low

    here : (d : Dir) (z : PieceSpan) → z ≡ span_on s d → IsPiece M P (piece_on s d)
        → ((z ≡ span_on s Backward) × IsTrue b) ⊎ Mid z
    here Forward z same is = inr (inl (same, forward.1 is))
    here Backward z same is = inl (same, backward.1 is)

    at_first : (z : PieceSpan) → IsSpanOn M P s.way z → z.name.index ≡ s.index
        → ((z ≡ span_on s Backward) × IsTrue b) ⊎ Mid z
    at_first z w same =
        let p : piece_of z ≡ piece_on s z.name.dir = same_piece M P s stretch (piece_of z) w.is w.of same in
        here z.name.dir z (ap span_of p) (subst (IsPiece M P) p w.is)

    high_cases : (z : PieceSpan) → High z → ((z ≡ span_on s Backward) × IsTrue b) ⊎ Mid z
    high_cases z high =
        let w = high.1 in
        let below = high.0 in
        elim (order z.name.index s.index) [
          | inl less ↦ inr (inr (less, w))
          | inr others ↦ elim others [
            | inl same ↦ at_first z w same
            | inr more ↦ absurd (none_inside M P s stretch (piece_of z) w.is w.of more below)
          ]
        ]

    pub both_listed : (xs : List PieceSpan) → Lists (λ z. z.name) name_cmp Low xs
        → Lists (λ z. z.name) name_cmp High (added (added xs f (span_on s Forward)) b (span_on s Backward))
    both_listed xs lists =
        let first = lists_added (λ z. z.name) name_cmp Low Mid xs f (span_on s Forward) lists (low_below Forward)
        (λ z low. inr low) (λ is. inl (refl, is)) (λ z mid. mid) in
        lists_added (λ z. z.name) name_cmp Mid High (added xs f (span_on s Forward)) b (span_on s Backward) first
        mid_below mid_high (λ is. piece_here Backward (backward.0 is)) high_cases

module _ (M : Objects) (P : Rules) (s : Stretch) (stretch : IsStretch M P s) (ok : Bool)
    (known : ok ≡ (located M (node_at M s.way s.index) && located M (node_at M s.way s.end))) where
  -- a piece lies there where the way is open and both ends are located
  driven : (d : Dir) (free : Bool) → free ≡ is_open M P s.way d → IsTrue (ok && free) ↔ IsPiece M P (piece_on s d)
  driven d free is = (
    λ yes. let both = and_parts _ _ yes in piece_from M P s stretch d
        (and_from _ _ (sym is ∙ both.1) (sym known ∙ both.0)),
    λ piece. let both = and_parts _ _ (piece_parts M P (piece_on s d) piece) in and_from _ _ (known ∙ both.1)
        (is ∙ both.0),
  )

  -- the pieces there come behind those before
  pub stretch_listed : (r : Road) → IsRoad M P r → r.way ≡ s.way → (xs : List PieceSpan)
      → Lists (λ z. z.name) name_cmp (IsSpanBelow M P s.way s.index) xs
      → Lists (λ z. z.name) name_cmp (IsSpanBelow M P s.way s.end)
      (added (added xs (ok && r.forward) (span_on s Forward)) (ok && r.backward) (span_on s Backward))
  stretch_listed r is way xs lists =
      both_listed M P s stretch (ok && r.forward) (ok && r.backward)
      (driven Forward r.forward (is.forward ∙ ap (λ w. is_open M P w Forward) way))
      (driven Backward r.backward (is.backward ∙ ap (λ w. is_open M P w Backward) way))
      xs lists

-- ---- all junctions of the way

module _ (M : Objects) (P : Rules) (w : WayId) (xs : List ℕ) (are : AreJunctions M P w xs) where
  -- no piece begins below the first junction
  pub none_below : (z : PieceSpan) → IsSpanBelow M P w (get_or xs 0 0) z → ⊥
  none_below z (below, on) =
      let low = not_below_first M P w xs are z.name.index (first_listed M P w xs are (piece_of z) on.is on.of) in
      omega arith

  -- each piece begins below the last one
  pub below_last : (i : ℕ) → i ≡ length xs - 1 → (z : PieceSpan) → IsSpanOn M P w z
      → IsSpanBelow M P w (get_or xs i 0) z
  below_last i same z on =
      let rises = (on.is).ascends in
      let high = not_above_last M P w xs are z.end (last_listed M P w xs are (piece_of z) on.is on.of) in
      let last : get_or xs i 0 ≡ get_or xs (length xs - 1) 0 = ap (λ k. get_or xs k 0) same in
      (omega arith, on)
