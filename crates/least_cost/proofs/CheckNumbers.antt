-- The number that a list gives to a context, by the names of its pieces.
use Rattle.std.proofs.Common.{◌≡◌, ℕ, zero, suc, cond, List, [], ◌∷◌, ◌++◌, length, map}
use Rattle.std.proofs.Common.{Option, Some, None, slice_get, IsTrue, inl, inr, refl, sym, ap, ◌∙◌}
use Rattle.std.proofs.Common.{subst, arith}
use Rattle.std.specs.Ordering.{is_eq, is_lt}
use Rattle.std.specs.Cmp.{IsTotalOrder}
use Rattle.std.specs.FinMap.{IsAntisymmetric}
use Rattle.std.proofs.lemmas.Cmp.{tied_itself}
use Rattle.std.proofs.lemmas.List.{map-append}
use Rattle.road_base.specs.Objects.{Objects}
use Rattle.ordered_lists.specs.Orders.{rises}
use Rattle.ordered_lists.proofs.Splits.{same_last}
use Rattle.ordered_lists.proofs.ListMembers.{in_at}
use Rattle.ordered_lists.proofs.ListPlaces.{one_stands}
use Rattle.ordered_lists.proofs.Comparisons.{eq_cases, not_itself}
use Rattle.ordered_lists.proofs.AscendingLists.{Climbs, climbs}
use Rattle.road_model.specs.declared.lists.PieceName.{PieceName}
use Rattle.road_model.specs.Rules.{Rules}
use Rattle.road_model.specs.Pieces.{Span}
use Rattle.road_model.specs.Blocks.{name_of}
use Rattle.road_model.specs.Orders.{name_cmp, names_cmp}
use Rattle.context_search.specs.Marks.{At, key_of, key_cmp}
use Rattle.context_search.specs.Sought.{IsSpot}
use Rattle.context_search.proofs.SearchKeys.{key_total}
use Rattle.least_cost.specs.Shown.{number_at}

-- the names of all pieces of the context, in order
abbrev pub names_of : At → List PieceName
names_of x = x.context.before ++ x.piece.name ∷ []

-- what the list gives to the first context with these names
abbrev pub number_for : List At → List (Option ℕ) → List PieceName → Option ℕ
number_for [] list k = None
number_for (x ∷ L) [] k = None
number_for (x ∷ L) (v ∷ list) k = cond (is_eq (names_cmp (names_of x) k)) v (number_for L list k)

pub same_key : (x y : At) → names_of x ≡ names_of y → key_of x ≡ key_of y
same_key x y e =
    let l = same_last x.context.before x.piece.name y.context.before y.piece.name e in
    λ i. (l.last i, l.front i)

pub spot_names : (M : Objects) (P : Rules) (c : List Span) (x : At) → IsSpot M P c x → map name_of c ≡ names_of x
spot_names M P c x s = ap (map name_of) s.is ∙ map-append name_of s.entry.before (s.listed.piece ∷ [])
    ∙ (λ i. sym s.entry.named i ++ sym s.listed.named i ∷ [])

module _ (names : IsTotalOrder name_cmp) (lists : IsTotalOrder names_cmp) (ties : IsAntisymmetric names_cmp) where
  found : (x : At) (L : List At) (v : Option ℕ) (list : List (Option ℕ))
      → number_for (x ∷ L) (v ∷ list) (names_of x) ≡ v
  found x L v list = ap (λ r. cond (is_eq r) v (number_for L list (names_of x))) (tied_itself lists (names_of x))

  passed : (x y : At) (L : List At) (v : Option ℕ) (list : List (Option ℕ))
      → IsTrue (is_lt (key_cmp (key_of x) (key_of y)))
      → number_for (x ∷ L) (v ∷ list) (names_of y) ≡ number_for L list (names_of y)
  passed x y L v list below = elim (eq_cases (names_cmp (names_of x) (names_of y))) [
    | inl e ↦ absurd (not_itself key_cmp (key_total names lists) (key_of y)
        (subst (λ k. IsTrue (is_lt (key_cmp k (key_of y)))) (same_key x y (ties (names_of x) (names_of y) e)) below))
    | inr f ↦ ap (λ b. cond b v (number_for L list (names_of y))) f
  ]

  by_climbing : (L : List At) (list : List (Option ℕ)) → Climbs key_of key_cmp (key_total names lists) L
      → length list ≡ length L → (n : ℕ) (x : At) → slice_get L n ≡ Some x
      → number_for L list (names_of x) ≡ number_at list n
  by_climbing [] list up count n x at = cc
  by_climbing (y ∷ L) [] up count n x at = absurd (omega arith)
  by_climbing (y ∷ L) (v ∷ list) up count zero x at =
      let e : y ≡ x = one_stands (y ∷ L) 0 y x refl at in
      subst (λ z. number_for (y ∷ L) (v ∷ list) (names_of z) ≡ v) e (found y L v list)
  by_climbing (y ∷ L) (v ∷ list) up count (suc n) x at =
      passed y x L v list (up.0 x (in_at L x n at)) ∙ by_climbing L list up.1 (omega arith) n x at

  -- each context has the number at its place
  pub number_found : (L : List At) (list : List (Option ℕ)) → IsTrue (rises key_cmp (map key_of L))
      → length list ≡ length L → (n : ℕ) (x : At) → slice_get L n ≡ Some x
      → number_for L list (names_of x) ≡ number_at list n
  number_found L list up = by_climbing L list (climbs key_of key_cmp (key_total names lists) L up)
