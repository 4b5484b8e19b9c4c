-- Arcs sorted by their sources, each source once, and then by their targets.
use Rattle.std.proofs.Common.{◌≡◌, List, [], ◌∷◌, map, refl, sym, ap, subst, Bool, IsTrue, Contains, Ordering}
use Rattle.std.specs.Ordering.{is_lt, is_eq}
use Rattle.std.specs.Cmp.{IsTotalOrder, Equal-is}
use Rattle.std.specs.FinMap.{IsAntisymmetric}
use Rattle.std.specs.List.{dedup}
use Rattle.std.specs.List.Sorted.{IsPermutation, IsSortedBy, IsStrictlySortedBy}
use Rattle.std.proofs.lemmas.Bool.{and_from}
use Rattle.std.proofs.lemmas.Cmp.{eq_by_cmp_equiv}
use Rattle.std.proofs.lemmas.List.Kept.{Any-dedup, Contains-from_dedup, IsStrictlySortedBy-dedup}
use Rattle.std.proofs.lemmas.List.Sorted.{Contains-permutation, IsPermutation-sym}
use Rattle.ordered_lists.specs.Orders.{rises}

module _ {A N : Type 0} (name : A → N) (R : N → N → Ordering) (total : IsTotalOrder R) where
  abbrev pub by_name : A → A → Ordering
  by_name x y = R (name x) (name y)

  by_name_total : IsTotalOrder by_name
  by_name_total = record {
    antisymm = λ x y. total.antisymm (name x) (name y);
    trans = λ x y z. total.trans (name x) (name y) (name z);
    congr = λ x y z. total.congr (name x) (name y) (name z);
  }

  abbrev pub same : A → A → Bool
  same x y = is_eq (by_name x y)

  names_rise : (xs : List A) → IsStrictlySortedBy by_name xs → IsTrue (rises R (map name xs))
  unfolding IsStrictlySortedBy
  names_rise [] h = refl
  names_rise (x ∷ []) h = refl
  names_rise (x ∷ y ∷ ys) h = and_from _ _ (ap is_lt h.0.0) (names_rise (y ∷ ys) h.1)

  pub once_rises : (ys zs : List A) → zs ≡ dedup same ys → IsSortedBy (λ x y. is_lt (R (name x) (name y))) ys
      → IsTrue (rises R (map name zs))
  once_rises ys zs left sorted = subst (λ l. IsTrue (rises R (map name l))) (sym left)
      (names_rise (dedup same ys) (IsStrictlySortedBy-dedup by_name_total (λ x y. refl) ys sorted))

  module _ (ties : IsAntisymmetric R) (xs ys zs : List A) (moved : IsPermutation xs ys) (left : zs ≡ dedup same ys)
    where
      pub once_from : (x : A) → Contains zs x → Contains xs x
      once_from x has = Contains-permutation ys xs x (IsPermutation-sym xs ys moved)
          (Contains-from_dedup same ys x (subst (λ l. Contains l x) left has))

      -- where what has one name is one
      pub once_keeps : ((a b : A) → Contains xs a → Contains xs b → name a ≡ name b → a ≡ b) → (x : A) → Contains xs x
          → Contains zs x
      once_keeps one x has =
          let r = Any-dedup (eq_by_cmp_equiv by_name_total) ys x (Contains-permutation xs ys x moved has) in
          let there : Contains zs r.1 = subst (λ l. Contains l r.1) (sym left) (r.0, r.2, r.3) in
          let named : name x ≡ name r.1 = ties (name x) (name r.1) ((Equal-is _).0 r.4) in
          subst (Contains zs) (sym (one x r.1 has (once_from r.1 there) named)) there
