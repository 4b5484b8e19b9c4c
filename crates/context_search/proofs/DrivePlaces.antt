-- What stands before a place of a list, at it and behind it.
use Rattle.std.proofs.Common.{◌≡◌, ℕ, suc, ◌+◌, ◌-◌, ◌<◌, ◌≤◌, List, [], ◌∷◌, ◌++◌, length, slice_get, take, drop}
use Rattle.std.proofs.Common.{Some, refl, sym, ap, ◌∙◌, arith, append_assoc, length-append}
use Rattle.std.proofs.lemmas.Option.{slice_get_within, get_or_from_slice_get}
use Rattle.std.proofs.lemmas.List.{drop_more, take_more, take-append-drop, drop-take, drop-append-le, length-take-le}
use Rattle.std.proofs.lemmas.List.{length-drop}
use Rattle.ordered_lists.proofs.Splits.{Ends, Nil, Last, same_last}

module _ {X : Type 0} where
  pub drop_place : (xs : List X) (i : ℕ) (x : X) → slice_get xs i ≡ Some x → drop i xs ≡ x ∷ drop (i + 1) xs
  drop_place xs i x h = drop_more xs i x (slice_get_within xs i x h)
      ∙ ap (λ v. v ∷ drop (i + 1) xs) (get_or_from_slice_get xs i x x h)

  pub take_place : (xs : List X) (i : ℕ) (x : X) → slice_get xs i ≡ Some x → take (i + 1) xs ≡ take i xs ++ x ∷ []
  take_place xs i x h = take_more xs i x (slice_get_within xs i x h)
      ∙ ap (λ v. take i xs ++ v ∷ []) (get_or_from_slice_get xs i x x h)

  pub split_place : (xs : List X) (i : ℕ) (x : X) → slice_get xs i ≡ Some x → xs ≡ take i xs ++ x ∷ drop (i + 1) xs
  split_place xs i x h = sym (take-append-drop i xs) ∙ ap (λ v. take i xs ++ v) (drop_place xs i x h)

  -- what stands at the places i to j begins with the first of these and ends with the last
  pub run_first : (xs : List X) (i j : ℕ) (x : X) → i ≤ j → slice_get xs i ≡ Some x
      → take (j + 1 - i) (drop i xs) ≡ x ∷ take (j - i) (drop (i + 1) xs)
  run_first xs i j x l h =
      let e : j + 1 - i ≡ suc (j - i) = omega arith in
      ap (λ v. take (j + 1 - i) v) (drop_place xs i x h) ∙ ap (λ n. take n (x ∷ drop (i + 1) xs)) e

  pub run_last : (xs : List X) (i j : ℕ) (y : X) → i ≤ j → slice_get xs j ≡ Some y
      → take (j + 1 - i) (drop i xs) ≡ drop i (take j xs) ++ y ∷ []
  run_last xs i j y l h =
      let e : i + (j + 1 - i) ≡ j + 1 = omega arith in
      let w = slice_get_within xs j y h in
      let k = length-take-le j xs (omega arith) in
      sym (drop-take i (j + 1 - i) xs) ∙ ap (λ n. drop i (take n xs)) e ∙ ap (λ v. drop i v) (take_place xs j y h)
      ∙ drop-append-le i (take j xs) (y ∷ []) (omega arith)

  pub around_run : (xs : List X) (i n : ℕ) → xs ≡ take i xs ++ (take n (drop i xs) ++ drop n (drop i xs))
  around_run xs i n = sym (take-append-drop i xs) ∙ ap (λ v. take i xs ++ v) (sym (take-append-drop n (drop i xs)))

  pub around_middle : (a b w c d : List X) → (a ++ b) ++ (w ++ (c ++ d)) ≡ a ++ ((b ++ (w ++ c)) ++ d)
  around_middle a b w c d = simp append_assoc

  -- a list that is what stands before i, some more, and what stands behind j has i at or before j
  pub places_ascend : (xs d : List X) (i j : ℕ) → i < length xs → j < length xs → (d ≡ [] → ⊥)
      → xs ++ [] ≡ take i xs ++ (d ++ drop (j + 1) xs) → i ≤ j
  places_ascend xs [] i j a b n e = absurd (n refl)
  places_ascend xs (x ∷ d) i j a b n e =
      let f = ap length e in
      let g = length-append xs [] in
      let h = length-append (take i xs) (x ∷ (d ++ drop (j + 1) xs)) in
      let k = length-append d (drop (j + 1) xs) in
      let l = length-take-le i xs (omega arith) in
      let m = length-drop (j + 1) xs in
      omega arith

  -- two lists that begin with the same element
  pub record ShareFirst (xs ys : List X) : Type 0 where
    pub first : X
    pub left : List X
    pub right : List X
    pub left_is : xs ≡ first ∷ left
    pub right_is : ys ≡ first ∷ right

  pub share_first : (front : List X) (x : X) (back rest : List X) → ShareFirst (front ++ x ∷ back) (front ++ x ∷ rest)
  share_first [] x back rest = record { first = x; left = back; right = rest; left_is = refl; right_is = refl }
  share_first (z ∷ front) x back rest = record
      { first = z; left = front ++ x ∷ back; right = front ++ x ∷ rest; left_is = refl; right_is = refl }

  -- two lists that end with the same element
  pub record ShareLast (xs ys : List X) : Type 0 where
    pub last : X
    pub left : List X
    pub right : List X
    pub left_is : xs ≡ left ++ last ∷ []
    pub right_is : ys ≡ right ++ last ∷ []

  pub share_last : (front most : List X) (x : X) (back : List X) → Ends back
      → ShareLast (front ++ x ∷ back) (most ++ x ∷ back)
  share_last front most x back (Nil e) = record {
    last = x;
    left = front;
    right = most;
    left_is = ap (λ v. front ++ x ∷ v) e;
    right_is = ap (λ v. most ++ x ∷ v) e;
  }
  share_last front most x back (Last b y e) = record {
    last = y;
    left = front ++ x ∷ b;
    right = most ++ x ∷ b;
    left_is = ap (λ v. front ++ x ∷ v) e ∙ sym (append_assoc front (x ∷ b) (y ∷ []));
    right_is = ap (λ v. most ++ x ∷ v) e ∙ sym (append_assoc most (x ∷ b) (y ∷ []));
  }

  pub begins_with : (xs more : List X) (f : X) (rest : List X) → (xs ≡ [] → ⊥) → xs ++ more ≡ f ∷ rest
      → (back : List X) × (xs ≡ f ∷ back)
  begins_with [] more f rest n e = absurd (n refl)
  begins_with (x ∷ xs) more f rest n e = (xs, cc)

  pub ends_with : (xs more : List X) (u : X) (before : List X) → Ends xs → (xs ≡ [] → ⊥)
      → more ++ xs ≡ before ++ u ∷ [] → (front : List X) × (xs ≡ front ++ u ∷ [])
  ends_with xs more u before (Nil e) n h = absurd (n e)
  ends_with xs more u before (Last front x e) n h =
      let r = same_last (more ++ front) x before u
      (append_assoc more front (x ∷ []) ∙ sym (ap (λ v. more ++ v) e) ∙ h) in
      (front, e ∙ ap (λ v. front ++ v ∷ []) r.last)
