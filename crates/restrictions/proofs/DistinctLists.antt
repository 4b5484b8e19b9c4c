-- That none stands twice in a list that is made of others.
use Rattle.std.proofs.Common.{◌≡◌, ◌≢◌, inl, inr, List, [], ◌∷◌, ◌++◌, map, Contains, subst}
use Rattle.std.proofs.Common.{◌∙◌}
use Rattle.std.specs.List.{flat_map}
use Rattle.std.proofs.lemmas.List.Elements.{Contains-append_cases}
use Rattle.ordered_lists.proofs.ListMembers.{contains_head, contains_later, contains_one, contains_from_map}
use Rattle.ordered_lists.proofs.ListMembers.{contains_from_flat, all_from, all_at}
use Rattle.restrictions.specs.Words.{AreDistinct}

module _ {A : Type 0} where
  -- ---- none stands twice

  pub distinct_append : (xs ys : List A) → AreDistinct xs → AreDistinct ys
      → ((z : A) → Contains xs z → Contains ys z → ⊥) → AreDistinct (xs ++ ys)
  distinct_append [] ys left right apart = right
  distinct_append (x ∷ xs) ys left right apart = (
    all_from (λ y. x ≢ y) (xs ++ ys) (λ y has same. elim (Contains-append_cases xs ys y has) [
      | inl on_left ↦ all_at (λ z. x ≢ z) xs y left.0 on_left same
      | inr on_right ↦ apart y (subst (Contains (x ∷ xs)) same (contains_head x xs)) on_right
    ]),
    distinct_append xs ys left.1 right (λ z on_left on_right. apart z (contains_later x z xs on_left) on_right),
  )

  pub distinct_push : (xs : List A) (y : A) → AreDistinct xs → (Contains xs y → ⊥) → AreDistinct (xs ++ y ∷ [])
  distinct_push xs y once new = distinct_append xs (y ∷ []) once (tt, tt)
      (λ z on_left on_right. new (subst (Contains xs) (contains_one y z on_right) on_left))

module _ {A B : Type 0} where
  pub distinct_map : (f : A → B) → ((x y : A) → f x ≡ f y → x ≡ y) → (xs : List A) → AreDistinct xs
      → AreDistinct (map f xs)
  distinct_map f one [] once = tt
  distinct_map f one (x ∷ xs) once = (
    all_from (λ z. f x ≢ z) (map f xs) (λ z has same.
        let found = contains_from_map f xs z has in
        all_at (λ y. x ≢ y) xs found.0 once.0 found.1 (one x found.0 (same ∙ found.2))),
    distinct_map f one xs once.1,
  )

  pub distinct_joined : (f : A → List B) (xs : List A) → AreDistinct xs → ((x : A) → AreDistinct (f x))
      → ((x y : A) (z : B) → Contains (f x) z → Contains (f y) z → x ≡ y) → AreDistinct (flat_map f xs)
  distinct_joined f [] once inner apart = tt
  distinct_joined f (x ∷ xs) once inner apart = distinct_append (f x) (flat_map f xs) (inner x)
      (distinct_joined f xs once.1 inner apart) (λ z here there.
      let found = contains_from_flat f xs z there in
      all_at (λ y. x ≢ y) xs found.0 once.0 found.1 (apart x found.0 z here found.2))
