-- What stands in a heap, seen as a list of places.
use Rattle.std.proofs.Common.{◌≡◌, ℕ, List, ◌∷◌, map, subst}
use Rattle.std.specs.List.Sorted.{IsPermutation}
use Rattle.std.proofs.lemmas.List.Sorted.{IsPermutation-map}

module _ {A : Type 0} (place : A → ℕ) (items new : List A) (x : A) (old : List ℕ) (is : map place items ≡ old) where
  pub pushed : IsPermutation (x ∷ items) new → IsPermutation (place x ∷ old) (map place new)
  pushed p = subst (λ l. IsPermutation (place x ∷ l) (map place new)) is (IsPermutation-map place (x ∷ items) new p)

  pub popped : IsPermutation items (x ∷ new) → IsPermutation old (place x ∷ map place new)
  popped p = subst (λ l. IsPermutation l (place x ∷ map place new)) is (IsPermutation-map place items (x ∷ new) p)
