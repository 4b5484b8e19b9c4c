-- Two lists of which what stands at one place belongs together.
use Rattle.std.proofs.Common.{
  ◌≡◌,
  ℕ,
  zero,
  suc,
  ◌+◌,
  List,
  [],
  ◌∷◌,
  ◌++◌,
  length,
  Some,
  slice_get,
  ap,
  sym,
  ◌∙◌,
  subst,
  arith,
  length-append,
  ◌⊎◌,
  inl,
  inr,
  refl,
}
use Rattle.std.proofs.lemmas.Option.{same_Some}

-- whatever stands at one place of both is so
abbrev pub AreSoTogether : {A B : Type 0} → (A → B → Type 0) → List A → List B → Type 0
AreSoTogether {A = A} {B = B} Is xs ys =
    (k : ℕ) (x : A) (y : B) → slice_get xs k ≡ Some x → slice_get ys k ≡ Some y → Is x y

none_at : {A B : Type 0} (Is : A → B → Type 0) (x : A) (y : B) (k : ℕ) → slice_get [] k ≡ Some x → Is x y
none_at Is x y zero h = cc
none_at Is x y (suc k) h = cc

pub none_together : {A B : Type 0} (Is : A → B → Type 0) (xs : List A) (ys : List B)
    → xs ≡ []
    → AreSoTogether Is xs ys
none_together Is xs ys e k x y hx hy = none_at Is x y k (subst (λ l. slice_get l k ≡ Some x) e hx)

more_at : {A B : Type 0} (Is : A → B → Type 0) (xs : List A) (ys : List B) (x : A) (y : B)
    → length xs ≡ length ys
    → AreSoTogether Is xs ys
    → Is x y
    → (k : ℕ) (a : A) (b : B)
    → slice_get (xs ++ x ∷ []) k ≡ Some a
    → slice_get (ys ++ y ∷ []) k ≡ Some b
    → Is a b
more_at Is [] [] x y e so is zero a b ha hb =
    let first : x ≡ a = cc in
    let second : y ≡ b = cc in
    subst (λ z. Is a z) second (subst (λ z. Is z y) first is)
more_at Is [] [] x y e so is (suc k) a b ha hb = none_at Is a b k ha
more_at Is [] (w ∷ ys) x y e so is k a b ha hb = absurd (omega arith)
more_at Is (z ∷ xs) [] x y e so is k a b ha hb = absurd (omega arith)
more_at Is (z ∷ xs) (w ∷ ys) x y e so is zero a b ha hb = so zero a b ha hb
more_at Is (z ∷ xs) (w ∷ ys) x y e so is (suc k) a b ha hb =
    more_at Is xs ys x y (omega arith) (λ n c d hc hd. so (suc n) c d hc hd) is k a b ha hb

module _ {A B : Type 0} (Is : A → B → Type 0) (xs more : List A) (ys others : List B) (x : A) (y : B)
    (grown : more ≡ xs ++ x ∷ []) (others_grown : others ≡ ys ++ y ∷ []) (count : length xs ≡ length ys) where
  -- as many of both, one more
  pub as_many_more : length more ≡ length others
  as_many_more =
      ap length grown
      ∙ length-append xs (x ∷ [])
      ∙ ap (λ n. n + 1) count
      ∙ sym (length-append ys (y ∷ []))
      ∙ sym (ap length others_grown)

  pub one_more_together : AreSoTogether Is xs ys → Is x y → AreSoTogether Is more others
  one_more_together so is k a b ha hb =
      more_at Is xs ys x y count so is k a b
      (subst (λ l. slice_get l k ≡ Some a) grown ha)
      (subst (λ l. slice_get l k ≡ Some b) others_grown hb)

-- ---- what stands in a list that grew

pub none_stands : {A : Type 0} (x : A) (k : ℕ) → slice_get [] k ≡ Some x → ⊥
none_stands x zero h = cc
none_stands x (suc k) h = cc

-- what stands in the list with one more at its end stood there before, or is that one
pub pushed_at : {A : Type 0} (xs : List A) (y x : A) (k : ℕ) → slice_get (xs ++ y ∷ []) k ≡ Some x
    → (slice_get xs k ≡ Some x) ⊎ ((k ≡ length xs) × (y ≡ x))
pushed_at [] y x zero h = inr (refl, same_Some _ _ h)
pushed_at [] y x (suc k) h = absurd (none_stands x k h)
pushed_at (z ∷ xs) y x zero h = inl h
pushed_at (z ∷ xs) y x (suc k) h = elim (pushed_at xs y x k h) [ inl i ↦ inl i | inr r ↦ inr (ap suc r.0, r.1) ]
