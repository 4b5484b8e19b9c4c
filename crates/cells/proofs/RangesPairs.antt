-- Two lists of which the elements at each place belong together.
use Rattle.std.proofs.Common.{◌≡◌, ℕ, zero, suc, List, [], ◌∷◌, slice_get, Some, Contains, inl, inr, refl, sym, subst}
use Rattle.std.specs.List.{AllZip}
use Rattle.ordered_lists.proofs.ListMembers.{contains_head, contains_later, contains_cases, contains_none}

module _ {A B : Type 0} (R : A → B → Type 0) where
  -- to each element of the first list one of the second belongs
  pub right_of : (xs : List A) (ys : List B) → AllZip R xs ys → (x : A) → Contains xs x
      → (y : B) × Contains ys y × R x y
  right_of [] ys zip x has = absurd (contains_none x has)
  right_of (z ∷ xs) [] zip x has = absurd zip
  right_of (z ∷ xs) (y ∷ ys) zip x has = elim (contains_cases z x xs has) [
    | inl is ↦ (y, contains_head y ys, subst (λ (w : A). R w y) (sym is) zip.0)
    | inr more ↦ let h = right_of xs ys zip.1 x more in (h.0, contains_later y h.0 ys h.1, h.2)
  ]

  -- and the other way round
  pub left_of : (xs : List A) (ys : List B) → AllZip R xs ys → (y : B) → Contains ys y
      → (x : A) × Contains xs x × R x y
  left_of xs [] zip y has = absurd (contains_none y has)
  left_of [] (z ∷ ys) zip y has = absurd zip
  left_of (x ∷ xs) (z ∷ ys) zip y has = elim (contains_cases z y ys has) [
    | inl is ↦ (x, contains_head x xs, subst (λ (w : B). R x w) (sym is) zip.0)
    | inr more ↦ let h = left_of xs ys zip.1 y more in (h.0, contains_later x h.0 xs h.1, h.2)
  ]

  -- the one at the same place
  pub right_at : (xs : List A) (ys : List B) → AllZip R xs ys → (k : ℕ) (x : A) → slice_get xs k ≡ Some x
      → (y : B) × (slice_get ys k ≡ Some y) × R x y
  right_at [] ys zip k x at = cc
  right_at (z ∷ xs) [] zip k x at = absurd zip
  right_at (z ∷ xs) (y ∷ ys) zip zero x at = let is : z ≡ x = cc in (y, refl, subst (λ (w : A). R w y) is zip.0)
  right_at (z ∷ xs) (y ∷ ys) zip (suc k) x at = right_at xs ys zip.1 k x at

  -- a list to which an empty one belongs is empty
  pub left_empty : (xs : List A) (ys : List B) → AllZip R xs ys → xs ≡ [] → ys ≡ []
  left_empty [] [] zip e = refl
  left_empty [] (y ∷ ys) zip e = absurd zip
  left_empty (x ∷ xs) ys zip e = cc
