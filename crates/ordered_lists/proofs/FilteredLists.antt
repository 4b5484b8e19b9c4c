-- What a filter keeps of a list, and the filters of a list that are a part of it.
use Rattle.std.proofs.Common.{◌≡◌, ℕ, zero, suc, ◌+◌, ◌<◌, ◌≤◌, ◌⊎◌, inl, inr, Bool, true, false, cond, List, [], ◌∷◌}
use Rattle.std.proofs.Common.{length, take, drop, get_or, Contains, refl, sym, ap, subst, ◌∙◌, arith}
use Rattle.std.specs.List.{filter}
use Rattle.ordered_lists.proofs.ListMembers.{In, in_from_contains, contains_from_in}

module _ {A : Type 0} (p : A → Bool) where
  kept : (b : Bool) (x z : A) (ys : List A) → In z ys → In z (cond b (x ∷ ys) ys)
  kept true x z ys i = inr i
  kept false x z ys i = i

  split : (b : Bool) (x z : A) (ys : List A) → In z (cond b (x ∷ ys) ys) → ((z ≡ x) × (b ≡ true)) ⊎ In z ys
  split true x z ys (inl same) = inl (same, refl)
  split true x z ys (inr i) = inr i
  split false x z ys i = inr i

  pub in_filter : (xs : List A) (z : A) → In z xs → p z ≡ true → In z (filter p xs)
  in_filter [] z i passes = absurd i
  in_filter (x ∷ xs) z (inl same) passes = subst (λ b. In z (cond b (x ∷ filter p xs) (filter p xs)))
      (sym (ap p (sym same) ∙ passes)) (inl same)
  in_filter (x ∷ xs) z (inr i) passes = kept (p x) x z (filter p xs) (in_filter xs z i passes)

  pub from_filter : (xs : List A) (z : A) → In z (filter p xs) → In z xs × (p z ≡ true)
  from_filter [] z i = absurd i
  from_filter (x ∷ xs) z i = elim (split (p x) x z (filter p xs) i) [
    | inl here ↦ (inl here.0, ap p here.0 ∙ here.1)
    | inr rest ↦ let r = from_filter xs z rest in (inr r.0, r.1)
  ]

  pub contains_filter : (xs : List A) (z : A) → Contains xs z → p z ≡ true → Contains (filter p xs) z
  contains_filter xs z has passes =
      contains_from_in (filter p xs) z (in_filter xs z (in_from_contains xs z has) passes)

  pub contains_from_filter : (xs : List A) (z : A) → Contains (filter p xs) z → Contains xs z × (p z ≡ true)
  contains_from_filter xs z has =
      let r = from_filter xs z (in_from_contains (filter p xs) z has) in (contains_from_in xs z r.0, r.1)

  none_pass : (xs : List A) → ((k : ℕ) (d : A) → k < length xs → p (get_or xs k d) ≡ false) → filter p xs ≡ []
  none_pass [] h = refl
  none_pass (x ∷ xs) h = ap (λ b. cond b (x ∷ filter p xs) (filter p xs)) (h 0 x (omega arith))
      ∙ none_pass xs (λ k d l. h (suc k) d (omega arith))

  -- where exactly n that stand together pass
  pub filter_part : (xs : List A) (low n : ℕ) → low + n ≤ length xs
      → ((k : ℕ) (d : A) → k < low → p (get_or xs k d) ≡ false)
      → ((k : ℕ) (d : A) → low ≤ k → k < low + n → p (get_or xs k d) ≡ true)
      → ((k : ℕ) (d : A) → low + n ≤ k → k < length xs → p (get_or xs k d) ≡ false) → filter p xs ≡ take n (drop low xs)
  filter_part xs zero zero fits before inside behind = none_pass xs (λ k d l. behind k d (omega arith) l)
  filter_part [] zero (suc n) fits before inside behind = absurd (omega arith)
  filter_part (x ∷ xs) zero (suc n) fits before inside behind =
      ap (λ b. cond b (x ∷ filter p xs) (filter p xs)) (inside 0 x (omega arith) (omega arith))
      ∙ ap (λ l. x ∷ l) (filter_part xs zero n (omega arith) (λ k d l. absurd (omega arith))
      (λ k d m l. inside (suc k) d (omega arith) (omega arith))
      (λ k d m l. behind (suc k) d (omega arith) (omega arith)))
  filter_part [] (suc low) n fits before inside behind = absurd (omega arith)
  filter_part (x ∷ xs) (suc low) n fits before inside behind =
      ap (λ b. cond b (x ∷ filter p xs) (filter p xs)) (before 0 x (omega arith))
      ∙ filter_part xs low n (omega arith) (λ k d l. before (suc k) d (omega arith))
      (λ k d m l. inside (suc k) d (omega arith) (omega arith))
      (λ k d m l. behind (suc k) d (omega arith) (omega arith))
