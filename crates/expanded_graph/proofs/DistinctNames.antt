-- Sorted lists whose names differ ascend.
use Rattle.std.proofs.Common.{
  ◌≡◌,
  suc,
  ◌+◌,
  List,
  [],
  ◌∷◌,
  map,
  inl,
  inr,
  refl,
  sym,
  ap,
  ◌∙◌,
  subst,
  arith,
  Bool,
  true,
  false,
  ◌||◌,
  IsTrue,
  Ordering,
  slice_index_or,
}
use Rattle.std.specs.declared.cmp.Ordering.TheVariants.{Less, Equal, Greater}
use Rattle.std.specs.Ordering.{is_lt, is_eq, eq_by_cmp, ordering_reverse}
use Rattle.std.specs.Cmp.{IsTotalOrder, Equal-is}
use Rattle.std.specs.FinMap.{IsAntisymmetric}
use Rattle.std.specs.List.{IsDistinct, list_any, AllByRecursion}
use Rattle.std.specs.List.Sorted.{IsSortedBy}
use Rattle.std.proofs.lemmas.Bool.{false≢true, cases_Bool, and_from}
use Rattle.std.proofs.lemmas.Map.Keys.{IsDistinct-head, IsDistinct-tail}
use Rattle.ordered_lists.specs.Orders.{rises, rises_from}
use Rattle.ordered_lists.proofs.ListMembers.{In}

module _ {A N : Type 0} (name : A → N) (R : N → N → Ordering) (total : IsTotalOrder R) where
  abbrev Lt : A → A → Bool
  Lt x y = is_lt (R (name x) (name y))

  sorted_tail : (x : A) (xs : List A) → IsSortedBy Lt (x ∷ xs) → IsSortedBy Lt xs
  sorted_tail x xs h = λ k d low high.
      let r = h (suc k) d (omega arith) (omega arith) in
      let e : suc k + 1 ≡ suc (k + 1) = omega arith in
      subst (λ j. Lt (slice_index_or (x ∷ xs) j d) (slice_index_or xs k d) ≡ false) e r

  sorted_head : (x y : A) (xs : List A) → IsSortedBy Lt (x ∷ y ∷ xs) → Lt y x ≡ false
  sorted_head x y xs h =
      let e : 0 + 1 ≡ suc 0 = omega arith in
      subst (λ j. Lt (slice_index_or (x ∷ y ∷ xs) j x) x ≡ false) e (h 0 x (omega arith) (omega arith))

  below_by : (x y : N) (r s : Ordering) → R x y ≡ r → R y x ≡ s → is_lt s ≡ false → is_eq r ≡ false → is_lt r ≡ true
  below_by x y Less s e f low apart = refl
  below_by x y Equal s e f low apart = sym apart
  below_by x y Greater s e f low apart =
      let back : R y x ≡ ordering_reverse (R x y) = total.antisymm y x in
      let less : s ≡ Less = sym f ∙ (back ∙ ap ordering_reverse e) in
      absurd (false≢true (sym low ∙ ap is_lt less))

  ascends_from : (x : A) (xs : List A) → IsSortedBy Lt (x ∷ xs) → IsDistinct (eq_by_cmp R) (map name (x ∷ xs))
      → IsTrue (rises_from R (name x) (map name xs))
  ascends_from x [] h d = refl
  ascends_from x (y ∷ xs) h d =
      and_from _ _
      (below_by (name x) (name y) (R (name x) (name y)) (R (name y) (name x)) refl refl (sorted_head x y xs h)
      (IsDistinct-head (eq_by_cmp R) (name x) (name y ∷ map name xs) d).0)
      (ascends_from y xs (sorted_tail x (y ∷ xs) h) (IsDistinct-tail (eq_by_cmp R) (name x) (name y ∷ map name xs) d))

  pub ascends : (xs : List A) → IsSortedBy Lt xs → IsDistinct (eq_by_cmp R) (map name xs)
      → IsTrue (rises R (map name xs))
  ascends [] h d = refl
  ascends (x ∷ xs) h d = ascends_from x xs h d

-- ---- names that differ

module _ {N : Type 0} (R : N → N → Ordering) (total : IsTotalOrder R) (ties : IsAntisymmetric R) where
  pub apart : (x y : N) → (x ≡ y → ⊥) → eq_by_cmp R x y ≡ false
  apart x y other = elim (cases_Bool (is_eq (R x y))) [
    | inl e ↦ absurd (other (ties x y ((Equal-is (R x y)).0 e)))
    | inr n ↦ n
  ]

pub none_of : {N : Type 0} (test : N → Bool) (ys : List N) → ((y : N) → In y ys → test y ≡ false)
    → list_any test ys ≡ false
none_of test [] no_one = refl
none_of test (y ∷ ys) no_one =
    ap (λ b. b || list_any test ys) (no_one y (inl refl)) ∙ none_of test ys (λ z i. no_one z (inr i))

pub nothing_distinct : {N : Type 0} (e : N → N → Bool) → IsDistinct e []
unfolding IsDistinct
nothing_distinct e = tt

pub each_member : {A : Type 0} (Q : A → Type 0) (xs : List A) → ((x : A) → In x xs → Q x) → AllByRecursion Q xs
each_member Q [] h = tt
each_member Q (x ∷ xs) h = (h x (inl refl), each_member Q xs (λ y i. h y (inr i)))
