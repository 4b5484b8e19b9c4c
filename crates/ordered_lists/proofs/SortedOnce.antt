-- What a sort and the removal of repeats leave of a list: its members each once, ascending.
use Rattle.std.proofs.Common.{◌≡◌, Bool, IsTrue, List, [], ◌∷◌, refl, sym, ap, ◌∙◌, subst, Contains, Ordering}
use Rattle.std.specs.Ordering.{is_lt, is_eq, eq_by_cmp}
use Rattle.std.specs.Cmp.{IsTotalOrder, Equal-is}
use Rattle.std.specs.FinMap.{IsAntisymmetric}
use Rattle.std.specs.List.{dedup}
use Rattle.std.specs.List.Sorted.{IsPermutation, IsSorted, IsStrictlySortedBy}
use Rattle.std.proofs.lemmas.Bool.{and_from}
use Rattle.std.proofs.lemmas.Cmp.{eq_by_cmp_equiv}
use Rattle.std.proofs.lemmas.List.Kept.{Contains-dedup, Contains-from_dedup, IsStrictlySortedBy-dedup}
use Rattle.std.proofs.lemmas.List.Sorted.{Contains-permutation, IsPermutation-sym}
use Rattle.ordered_lists.specs.Orders.{rises}

module _ {N : Type 0} (C : N → N → Ordering) where
  rises_strictly : (xs : List N) → IsStrictlySortedBy C xs → IsTrue (rises C xs)
  unfolding IsStrictlySortedBy
  rises_strictly [] h = refl
  rises_strictly (x ∷ []) h = refl
  rises_strictly (x ∷ y ∷ ys) h = and_from _ _ (ap is_lt h.0.0) (rises_strictly (y ∷ ys) h.1)

  -- xs sorted is ys, and without its repeats zs
  module _ (total : IsTotalOrder C) (exact : IsAntisymmetric C) (E : N → N → Bool)
      (ties : (x y : N) → E x y ≡ is_eq (C x y)) (xs ys zs : List N) (moves : IsPermutation xs ys)
      (left : zs ≡ dedup E ys) where
    pub dedup_rises : IsSorted C ys → IsTrue (rises C zs)
    dedup_rises sorted = subst (λ l. IsTrue (rises C l)) (sym left)
        (rises_strictly (dedup E ys) (IsStrictlySortedBy-dedup total ties ys sorted))

    by_cmp : zs ≡ dedup (eq_by_cmp C) ys
    by_cmp = left ∙ ap (λ (f : N → N → Bool). dedup f ys) (λ i x y. ties x y i)

    pub dedup_keeps : (p : N) → Contains xs p → Contains zs p
    dedup_keeps p c =
        subst (λ l. Contains l p) (sym by_cmp) (Contains-dedup (eq_by_cmp_equiv total)
        (λ x y e. exact x y ((Equal-is _).0 e)) ys p (Contains-permutation xs ys p moves c))

    pub dedup_from_all : (p : N) → Contains zs p → Contains xs p
    dedup_from_all p c = Contains-permutation ys xs p (IsPermutation-sym xs ys moves)
        (Contains-from_dedup E ys p (subst (λ l. Contains l p) left c))
