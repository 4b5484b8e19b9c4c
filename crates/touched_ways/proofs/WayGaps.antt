-- Which ascending ways stand before a way, and which behind it.
use Rattle.std.proofs.Common.{◌≡◌, ℕ, zero, suc, ◌+◌, ◌<◌, inl, inr, IsTrue, List, [], ◌∷◌, length, get_or, sym}
use Rattle.std.proofs.Common.{subst, arith}
use Rattle.std.specs.declared.cmp.Ordering.TheVariants.{Less, Greater}
use Rattle.std.specs.Cmp.{IsTotalOrder}
use Rattle.std.specs.List.{AllWithin}
use Rattle.std.proofs.lemmas.Bool.{and_parts, cases_lt}
use Rattle.road_base.specs.declared.ids.WayId.{WayId}
use Rattle.ordered_lists.proofs.Comparisons.{less, turned}
use Rattle.ordered_lists.specs.Orders.{rises, rises_from}
use Rattle.road_model.specs.Orders.{way_cmp}
use Rattle.ordered_lists.proofs.AscendingLists.{rest_rises, behind_next}

module _ (total : IsTotalOrder way_cmp) where
  -- what ascends from a way stands above it
  above_first : (v : WayId) (ways : List WayId) → IsTrue (rises_from way_cmp v ways) → (k : ℕ) (d : WayId)
      → k < length ways → way_cmp v (get_or ways k d) ≡ Less
  above_first v [] up k d within = absurd (omega arith)
  above_first v (u ∷ ways) up zero d within = less _ (and_parts _ _ up).0
  above_first v (u ∷ ways) up (suc k) d within =
      above_first v ways (behind_next way_cmp total v u ways up) k d (omega arith)

  -- of two ways the one further in front is below the other
  in_turn : (ways : List WayId) → IsTrue (rises way_cmp ways) → (j k : ℕ) (d : WayId) → j < k → k < length ways
      → way_cmp (get_or ways j d) (get_or ways k d) ≡ Less
  in_turn [] up j k d before within = absurd (omega arith)
  in_turn (v ∷ ways) up j zero d before within = absurd (omega arith)
  in_turn (v ∷ ways) up zero (suc k) d before within = above_first v ways up k d (omega arith)
  in_turn (v ∷ ways) up (suc j) (suc k) d before within =
      in_turn ways (rest_rises way_cmp v ways up) j k d (omega arith) (omega arith)

  module _ (ways : List WayId) (up : IsTrue (rises way_cmp ways)) (i : ℕ) (v w : WayId) (within : i < length ways)
      (is : (d : WayId) → v ≡ get_or ways i d) where
    -- where one is below the way, so are those before it
    pub before_below : (count : ℕ) → i + 1 ≡ count → way_cmp v w ≡ Less
        → AllWithin (λ u. way_cmp u w ≡ Less) ways 0 count
    before_below count all low k d from to = elim (cases_lt k i) [
      | inl l ↦ total.trans _ v w
          (subst (λ u. way_cmp (get_or ways k d) u ≡ Less) (sym (is d)) (in_turn ways up k i d l within)) low
      | inr l ↦ let e : k ≡ i = omega arith in subst (λ (n : ℕ). way_cmp (get_or ways n d) w ≡ Less) (sym e)
          (subst (λ u. way_cmp u w ≡ Less) (is d) low)
    ]

    -- where one is above the way, so are those behind it
    pub behind_above : way_cmp v w ≡ Greater → AllWithin (λ u. way_cmp u w ≡ Greater) ways i (length ways)
    behind_above high k d from to = elim (cases_lt i k) [
      | inl l ↦ turned way_cmp total w (get_or ways k d) _ (total.trans w v _ (turned way_cmp total v w _ high)
          (subst (λ u. way_cmp u (get_or ways k d) ≡ Less) (sym (is d)) (in_turn ways up i k d l to)))
      | inr l ↦ let e : k ≡ i = omega arith in subst (λ (n : ℕ). way_cmp (get_or ways n d) w ≡ Greater) (sym e)
          (subst (λ u. way_cmp u w ≡ Greater) (is d) high)
    ]
