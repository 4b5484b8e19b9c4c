-- What has one key stands together in a list sorted by the key, between the two places that a search finds.
use Rattle.std.proofs.Common.{◌≡◌, ℕ, ◌+◌, ◌-◌, ◌≤◌, ◌&&◌, inl, inr, not, Bool, true, false, List, length, take}
use Rattle.std.proofs.Common.{drop, Ordering, refl, sym, ap, subst, ◌∙◌, arith}
use Rattle.std.specs.declared.cmp.Ordering.TheVariants.{Less, Equal, Greater}
use Rattle.std.specs.Ordering.{is_lt, is_le, is_eq, ordering_reverse, ordering_index}
use Rattle.std.specs.Cmp.{IsTotalOrder}
use Rattle.std.specs.List.{filter}
use Rattle.std.specs.List.Sorted.{IsPartitionPoint, IsPartitionedBy, IsSortedByKey, IsStableByKey, ties}
use Rattle.std.proofs.Math.Dec.{ltb, leb}
use Rattle.std.proofs.lemmas.Bool.{cases_lt, false≢true}
use Rattle.std.proofs.lemmas.List.Elements.{filter_agree}
use Rattle.std.proofs.lemmas.List.Sorted.{searchable_from_sorted, IsPartitionedBy-ltb, IsPartitionedBy-leb}
use Rattle.ordered_lists.proofs.Comparisons.{below_upto, between}
use Rattle.ordered_lists.proofs.FilteredLists.{filter_part}

-- ---- how keys compare

tied_by : (r : Ordering) → (not (is_lt (ordering_reverse r)) && not (is_lt r)) ≡ is_eq r
tied_by Less = refl
tied_by Equal = refl
tied_by Greater = refl

lt_index : (r : Ordering) → ltb (ordering_index r) 1 ≡ is_lt r
lt_index Less = refl
lt_index Equal = refl
lt_index Greater = refl

le_index : (r : Ordering) → leb (ordering_index r) 1 ≡ is_le r
le_index Less = refl
le_index Equal = refl
le_index Greater = refl

less_apart : (r : Ordering) → is_lt r ≡ true → is_eq r ≡ false
less_apart Less h = refl
less_apart Equal h = cc
less_apart Greater h = cc

more_apart : (r : Ordering) → is_le r ≡ false → is_eq r ≡ false
more_apart Less h = cc
more_apart Equal h = cc
more_apart Greater h = refl

-- ---- sorted by a key

module _ {A K : Type 0} (key : A → K) (R : K → K → Ordering) (total : IsTotalOrder R) where
  -- a stable sort leaves what has the key of some item as it was
  pub kept_by_sort : (some : A) (xs ys : List A) → IsStableByKey key R xs ys
      → filter (λ x. is_eq (R (key x) (key some))) xs ≡ filter (λ x. is_eq (R (key x) (key some))) ys
  kept_by_sort some xs ys stable =
      let test : A → Bool = λ x. is_eq (R (key x) (key some)) in
      let tied : A → Bool = ties (λ a b. is_lt (R (key a) (key b))) some in
      let same : (x : A) → tied x ≡ test x = λ x. ap (λ r. not (is_lt r) && not (is_lt (R (key x) (key some))))
      (total.antisymm (key some) (key x)) ∙ tied_by (R (key x) (key some)) in
      sym (filter_agree tied test same xs) ∙ (sym (stable some) ∙ filter_agree tied test same ys)

  module _ (v : K) (xs : List A) (sorted : IsSortedByKey key R xs) where
    pub below_parted : IsPartitionedBy (λ x. is_lt (R (key x) v)) xs
    below_parted =
        let same : (λ (x : A). ltb (ordering_index (R (key x) v)) 1)
        ≡ (λ (x : A). is_lt (R (key x) v)) = λ i x. lt_index (R (key x) v) i in
        subst (λ (q : A → Bool). IsPartitionedBy q xs) same
        (IsPartitionedBy-ltb (λ x. ordering_index (R (key x) v)) xs 1
        (searchable_from_sorted total key xs v sorted))

    pub upto_parted : IsPartitionedBy (λ x. is_le (R (key x) v)) xs
    upto_parted =
        let same : (λ (x : A). leb (ordering_index (R (key x) v)) 1)
        ≡ (λ (x : A). is_le (R (key x) v)) = λ i x. le_index (R (key x) v) i in
        subst (λ (q : A → Bool). IsPartitionedBy q xs) same
        (IsPartitionedBy-leb (λ x. ordering_index (R (key x) v)) xs 1
        (searchable_from_sorted total key xs v sorted))

-- ---- the two places between which the key stands

module _ {A K : Type 0} (key : A → K) (R : K → K → Ordering) (some : A) (v : K) (xs : List A) (low high : ℕ)
    (below : IsPartitionPoint (λ x. is_lt (R (key x) v) ≡ true) (λ x. is_lt (R (key x) v) ≡ false) xs low)
    (within : IsPartitionPoint (λ x. is_le (R (key x) v) ≡ true) (λ x. is_le (R (key x) v) ≡ false) xs high)
    (low_fits : low ≤ length xs) (high_fits : high ≤ length xs) where
  pub low_first : low ≤ high
  low_first = elim (cases_lt high low) [
    | inl l ↦ absurd (false≢true (sym (within.1 high some (omega arith) (omega arith))
        ∙ below_upto _ (below.0 high some (omega arith) l)))
    | inr le ↦ le
  ]

  pub part_together : take (high - low) (drop low xs) ≡ filter (λ x. is_eq (R (key x) v)) xs
  part_together =
      let up = low_first in
      let sum : low + (high - low) ≡ high = omega arith in
      sym (filter_part (λ x. is_eq (R (key x) v)) xs low (high - low) (omega arith)
      (λ k d l. less_apart _ (below.0 k d (omega arith) l))
      (λ k d m l. between _ (below.1 k d m (omega arith)) (within.0 k d (omega arith) (omega arith)))
      (λ k d m l. more_apart _ (within.1 k d (omega arith) l)))
