-- Neighbours in the list of junctions, and pieces.
use Rattle.std.proofs.Common.{◌≡◌, ℕ, ◌+◌, ◌-◌, ◌<◌, ◌≤◌, inl, inr, List, length, get_or, Contains, sym, ap, subst, ◌∙◌}
use Rattle.std.proofs.Common.{arith}
use Rattle.std.proofs.lemmas.List.{get_or_default}
use Rattle.std.proofs.lemmas.List.Elements.{Contains-get_or}
use Rattle.road_base.specs.declared.ids.WayId.{WayId}
use Rattle.road_base.specs.Objects.{Objects}
use Rattle.road_model.specs.Rules.{Rules}
use Rattle.road_model.specs.Pieces.{Span, IsPlain, IsPiece}
use Rattle.junctions.specs.Junctions.{IsJunction, AreJunctions}
use Rattle.way_pieces.specs.declared.stretches.Stretch.{Stretch}
use Rattle.way_pieces.specs.Stretches.{IsStretch, piece_on}
use Rattle.ordered_lists.proofs.Decided.{order}
use Rattle.way_pieces.proofs.AscendingLists.{climbs}
use Rattle.way_pieces.proofs.DrivenSteps.{piece_first, piece_last}

module _ (M : Objects) (P : Rules) (w : WayId) (xs : List ℕ) (are : AreJunctions M P w xs) where
  junction_at : (k : ℕ) → k < length xs → IsJunction M P w (get_or xs k 0)
  junction_at k within = are.listed.sound (get_or xs k 0) (Contains-get_or xs k 0 within)

  up : (i j : ℕ) → i < j → j < length xs → get_or xs i 0 < get_or xs j 0
  up = climbs xs are.listed.ascending

  -- what the list has lies at no place between two neighbours
  between : (k m j : ℕ) → k + 1 < length xs → j < length xs → get_or xs j 0 ≡ m → get_or xs k 0 < m
      → m < get_or xs (k + 1) 0 → ⊥
  between k m j inside within is low high = elim (order j k) [
    | inl less ↦ let a = up j k less (omega arith) in omega arith
    | inr others ↦ elim others [
      | inl same ↦ let e : get_or xs j 0 ≡ get_or xs k 0 = ap (λ i. get_or xs i 0) same in omega arith
      | inr more ↦ elim (order j (k + 1)) [
        | inl less ↦ omega arith
        | inr rest ↦ elim rest [
          | inl same ↦ let e : get_or xs j 0 ≡ get_or xs (k + 1) 0 = ap (λ i. get_or xs i 0) same in omega arith
          | inr above ↦ let a = up (k + 1) j above within in omega arith
        ]
      ]
    ]
  ]

  inner_plain : (k m : ℕ) → k + 1 < length xs → get_or xs k 0 < m → m < get_or xs (k + 1) 0 → IsPlain M P w m
  inner_plain k m inside low high =
      let last = junction_at (k + 1) inside in
      let on = last.on_line in
      elim (are.others m last.road (omega arith)) [
        | inl has ↦ absurd (between k m has.0 inside has.1 (get_or_default xs has.0 0 m has.1 ∙ has.2) low high)
        | inr plain ↦ plain
      ]

  -- neighbours in the list have only plain positions between them
  pub stretch_at : (k : ℕ) → k + 1 < length xs
      → IsStretch M P (record { way = w; index = get_or xs k 0; end = get_or xs (k + 1) 0 })
  stretch_at k inside = record {
    ascends = up k (k + 1) (omega arith) inside;
    first = junction_at k (omega arith);
    last = junction_at (k + 1) inside;
    inner = λ m low high. inner_plain k m inside low high;
  }

  -- a junction is no lower than the first, and no higher than the last
  pub not_below_first : (i : ℕ) → Contains xs i → get_or xs 0 0 ≤ i
  not_below_first i has =
      let is : get_or xs has.0 0 ≡ i = get_or_default xs has.0 0 i has.1 ∙ has.2 in
      elim (order 0 has.0) [
        | inl less ↦ let a = up 0 has.0 less has.1 in omega arith
        | inr others ↦ elim others [
          | inl same ↦ let e : get_or xs 0 0 ≡ get_or xs has.0 0 = ap (λ k. get_or xs k 0) same in omega arith
          | inr none ↦ absurd (omega arith)
        ]
      ]

  pub not_above_last : (i : ℕ) → Contains xs i → i ≤ get_or xs (length xs - 1) 0
  not_above_last i has =
      let within = has.1 in
      let is : get_or xs has.0 0 ≡ i = get_or_default xs has.0 0 i has.1 ∙ has.2 in
      elim (order has.0 (length xs - 1)) [
        | inl less ↦ let a = up has.0 (length xs - 1) less (omega arith) in omega arith
        | inr others ↦ elim others [
          | inl same ↦
              let e : get_or xs has.0 0 ≡ get_or xs (length xs - 1) 0 = ap (λ k. get_or xs k 0) same in omega arith
          | inr none ↦ absurd (omega arith)
        ]
      ]

  module _ (p : Span) (is : IsPiece M P p) (of : p.way ≡ w) where
    pub first_listed : Contains xs p.index
    first_listed = are.listed.complete p.index (subst (λ v. IsJunction M P v p.index) of (piece_first M P p is))

    pub last_listed : Contains xs p.end
    last_listed = are.listed.complete p.end (subst (λ v. IsJunction M P v p.end) of (piece_last M P p is))

module _ (M : Objects) (P : Rules) (s : Stretch) (stretch : IsStretch M P s) (p : Span) (is : IsPiece M P p)
    (of : p.way ≡ s.way) where
  -- no piece begins between two neighbouring junctions
  pub none_inside : s.index < p.index → p.index < s.end → ⊥
  none_inside low high = is.first (subst (λ v. IsPlain M P v p.index) (sym of) (stretch.inner p.index low high))

  -- a piece that begins at the lower one ends at the upper one
  same_end : p.index ≡ s.index → p.end ≡ s.end
  same_end same =
      let up = is.ascends in
      let rises = stretch.ascends in
      elim (order p.end s.end) [
        | inl less ↦ absurd (is.last
            (subst (λ v. IsPlain M P v p.end) (sym of) (stretch.inner p.end (omega arith) less)))
        | inr others ↦ elim others [
          | inl e ↦ e
          | inr more ↦ absurd (stretch.last.not_plain
              (subst (λ v. IsPlain M P v s.end) of (is.inner s.end (omega arith) more)))
        ]
      ]

  pub same_piece : p.index ≡ s.index → p ≡ piece_on s p.dir
  same_piece same = let j : p.end ≡ s.end = same_end same in λ x.
      record { way = of x; index = same x; end = j x; dir = p.dir }
