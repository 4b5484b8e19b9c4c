-- Members of a list, by recursion on the list, and what it has as its element.
use Rattle.std.proofs.Common.{◌≡◌, ℕ, zero, suc, ◌<◌, ◌⊎◌, inl, inr, List, [], ◌∷◌, ◌++◌, length, map, take, get_or}
use Rattle.std.proofs.Common.{slice_index_or, slice_get, Some, Contains, refl, sym, ap, subst}
use Rattle.std.proofs.Common.{◌∙◌, arith}
use Rattle.std.specs.List.{AllByRecursion, flat_map}

-- a member of a list
abbrev pub In : {A : Type 0} → A → List A → Type 0
In a [] = ⊥
In a (x ∷ xs) = (a ≡ x) ⊎ In a xs

module _ {A : Type 0} where
  -- ---- what a list contains are its members

  at_place : (xs : List A) (x : A) (k : ℕ) → k < length xs → slice_index_or xs k x ≡ x → In x xs
  at_place [] x k within is = absurd (omega arith)
  at_place (y ∷ xs) x zero within is = inl (sym is)
  at_place (y ∷ xs) x (suc k) within is = inr (at_place xs x k (omega arith) is)

  pub in_from_contains : (xs : List A) (x : A) → Contains xs x → In x xs
  in_from_contains xs x has = at_place xs x has.0 has.1 has.2

  pub contains_from_in : (xs : List A) (x : A) → In x xs → Contains xs x
  contains_from_in [] x i = absurd i
  contains_from_in (y ∷ xs) x (inl e) = (0, omega arith, sym e)
  contains_from_in (y ∷ xs) x (inr i) = let r = contains_from_in xs x i in let l = r.1 in (suc r.0, omega arith, r.2)

  -- ---- the place of a member

  pub in_at : (xs : List A) (x : A) (k : ℕ) → slice_get xs k ≡ Some x → In x xs
  in_at [] x k e = cc
  in_at (y ∷ xs) x zero e = inl (cc)
  in_at (y ∷ xs) x (suc k) e = inr (in_at xs x k e)

  pub at_in : (xs : List A) (x : A) → In x xs → (k : ℕ) × (slice_get xs k ≡ Some x)
  at_in [] x i = absurd i
  at_in (y ∷ xs) x (inl e) = (0, ap Some (sym e))
  at_in (y ∷ xs) x (inr i) = let r = at_in xs x i in (suc r.0, r.1)

  pub in_get : (xs : List A) (k : ℕ) (d : A) → k < length xs → In (get_or xs k d) xs
  in_get [] k d within = absurd (omega arith)
  in_get (y ∷ xs) zero d within = inl refl
  in_get (y ∷ xs) (suc k) d within = inr (in_get xs k d (omega arith))

  -- ---- members of lists one behind the other

  pub in_end : (a : List A) (x : A) (b : List A) → In x (a ++ x ∷ b)
  in_end [] x b = inl refl
  in_end (y ∷ a) x b = inr (in_end a x b)

  pub in_left : (a b : List A) (x : A) → In x a → In x (a ++ b)
  in_left [] b x i = absurd i
  in_left (y ∷ a) b x (inl e) = inl e
  in_left (y ∷ a) b x (inr i) = inr (in_left a b x i)

  pub in_right : (a b : List A) (x : A) → In x b → In x (a ++ b)
  in_right [] b x i = i
  in_right (y ∷ a) b x i = inr (in_right a b x i)

  pub in_cases : (a b : List A) (x : A) → In x (a ++ b) → In x a ⊎ In x b
  in_cases [] b x i = inr i
  in_cases (y ∷ a) b x (inl e) = inl (inl e)
  in_cases (y ∷ a) b x (inr i) = elim (in_cases a b x i) [ inl j ↦ inl (inr j) | inr j ↦ inr j ]

  pub in_take : (n : ℕ) (xs : List A) (x : A) → In x (take n xs) → In x xs
  in_take zero xs x i = absurd i
  in_take (suc n) [] x i = absurd i
  in_take (suc n) (y ∷ xs) x (inl e) = inl e
  in_take (suc n) (y ∷ xs) x (inr i) = inr (in_take n xs x i)

  -- a member of a list with one more behind
  pub push_cases : (xs : List A) (y x : A) → In x (xs ++ y ∷ []) → In x xs ⊎ (x ≡ y)
  push_cases [] y x (inl e) = inr e
  push_cases [] y x (inr i) = absurd i
  push_cases (z ∷ xs) y x (inl e) = inl (inl e)
  push_cases (z ∷ xs) y x (inr i) = elim (push_cases xs y x i) [ inl j ↦ inl (inr j) | inr e ↦ inr e ]

  -- two members of a list of one are equal
  pub all_one : (xs : List A) → length xs ≡ 1 → (x y : A) → In x xs → In y xs → x ≡ y
  all_one [] e x y i j = absurd i
  all_one (a ∷ []) e x y (inl i) (inl j) = i ∙ sym j
  all_one (a ∷ []) e x y (inl i) (inr j) = absurd j
  all_one (a ∷ []) e x y (inr i) j = absurd i
  all_one (a ∷ b ∷ xs) e x y i j = absurd (omega arith)

  -- ---- what a list contains, by its first element and the rest

  pub contains_head : (x : A) (xs : List A) → Contains (x ∷ xs) x
  contains_head x xs = (0, omega arith, refl)

  pub contains_later : (x y : A) (xs : List A) → Contains xs y → Contains (x ∷ xs) y
  contains_later x y xs (k, within, is) = (suc k, omega arith, is)

  pub contains_cases : (x y : A) (xs : List A) → Contains (x ∷ xs) y → (y ≡ x) ⊎ Contains xs y
  contains_cases x y xs (zero, within, is) = inl (sym is)
  contains_cases x y xs (suc k, within, is) = inr (k, omega arith, is)

  pub contains_none : (y : A) → Contains [] y → ⊥
  contains_none y (k, within, is) = omega arith

  pub contains_one : (x y : A) → Contains (x ∷ []) y → y ≡ x
  contains_one x y has = elim (contains_cases x y [] has) [ inl is ↦ is | inr none ↦ absurd (contains_none y none) ]

  -- what stands in a list with one more stood in the list or is that one
  pub contains_more : (xs : List A) (y x : A) → Contains (xs ++ y ∷ []) x → Contains xs x ⊎ (x ≡ y)
  contains_more xs y x has = elim (push_cases xs y x (in_from_contains (xs ++ y ∷ []) x has))
      [ inl i ↦ inl (contains_from_in xs x i) | inr e ↦ inr e ]

  -- ---- a fact of each element

  pub all_from : (P : A → Type 0) (xs : List A) → ((x : A) → Contains xs x → P x) → AllByRecursion P xs
  all_from P [] each = tt
  all_from P (x ∷ xs) each =
      (each x (contains_head x xs), all_from P xs (λ y has. each y (contains_later x y xs has)))

  pub all_at : (P : A → Type 0) (xs : List A) (x : A) → AllByRecursion P xs → Contains xs x → P x
  all_at P [] x all has = absurd (contains_none x has)
  all_at P (y ∷ xs) x all has = elim (contains_cases y x xs has)
      [ inl is ↦ subst P (sym is) all.0 | inr more ↦ all_at P xs x all.1 more ]

-- ---- members of a list mapped

module _ {A B : Type 0} (f : A → B) where
  pub in_map : (xs : List A) (x : A) → In x xs → In (f x) (map f xs)
  in_map [] x i = absurd i
  in_map (y ∷ xs) x (inl e) = inl (ap f e)
  in_map (y ∷ xs) x (inr i) = inr (in_map xs x i)

  pub from_map : (xs : List A) (z : B) → In z (map f xs) → (x : A) × In x xs × (z ≡ f x)
  from_map [] z i = absurd i
  from_map (y ∷ xs) z (inl e) = (y, inl refl, e)
  from_map (y ∷ xs) z (inr i) = let r = from_map xs z i in (r.0, inr r.1, r.2)

  pub contains_map : (xs : List A) (x : A) → Contains xs x → Contains (map f xs) (f x)
  contains_map xs x has = contains_from_in (map f xs) (f x) (in_map xs x (in_from_contains xs x has))

  pub contains_from_map : (xs : List A) (z : B) → Contains (map f xs) z → (x : A) × Contains xs x × (z ≡ f x)
  contains_from_map xs z has =
      let r = from_map xs z (in_from_contains (map f xs) z has) in (r.0, contains_from_in xs r.0 r.1, r.2)

-- ---- members of the lists that are made of each element, one behind the other

module _ {A B : Type 0} (f : A → List B) where
  pub in_flat : (xs : List A) (x : A) (z : B) → In x xs → In z (f x) → In z (flat_map f xs)
  in_flat [] x z i j = absurd i
  in_flat (y ∷ xs) x z (inl e) j = in_left (f y) (flat_map f xs) z (subst (λ w. In z (f w)) e j)
  in_flat (y ∷ xs) x z (inr i) j = in_right (f y) (flat_map f xs) z (in_flat xs x z i j)

  pub from_flat : (xs : List A) (z : B) → In z (flat_map f xs) → (x : A) × In x xs × In z (f x)
  from_flat [] z i = absurd i
  from_flat (y ∷ xs) z i = elim (in_cases (f y) (flat_map f xs) z i) [
    | inl j ↦ (y, inl refl, j)
    | inr j ↦ let r = from_flat xs z j in (r.0, inr r.1, r.2)
  ]

  pub contains_flat : (xs : List A) (x : A) (z : B) → Contains xs x → Contains (f x) z → Contains (flat_map f xs) z
  contains_flat xs x z has inside = contains_from_in (flat_map f xs) z
      (in_flat xs x z (in_from_contains xs x has) (in_from_contains (f x) z inside))

  pub contains_from_flat : (xs : List A) (z : B) → Contains (flat_map f xs) z
      → (x : A) × Contains xs x × Contains (f x) z
  contains_from_flat xs z has =
      let r = from_flat xs z (in_from_contains (flat_map f xs) z has) in
      (r.0, contains_from_in xs r.0 r.1, contains_from_in (f r.0) z r.2)
