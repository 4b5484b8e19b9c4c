-- What stands where in a list.
use Rattle.std.proofs.Common.{◌≡◌, ℕ, zero, suc, ◌<◌, ◌⊎◌, inl, inr, List, [], ◌∷◌, ◌++◌, length, slice_get, get_or}
use Rattle.std.proofs.Common.{Option, None, Some, IfSome, IfNone, Contains, refl, sym, ap, subst, ◌∙◌, arith}
use Rattle.std.proofs.lemmas.Option.{slice_get_within, slice_get-get_or, get_or_from_slice_get}

pub if_none : {X : Type 0} (P : Type 0) (o : Option X) → (o ≡ None → P) → IfNone o P
if_none P None h = h refl
if_none P (Some x) h = tt

pub some_is : {X : Type 0} (P : X → Type 0) (o : Option X) (x : X) → o ≡ Some x → IfSome o P → P x
some_is {X = X} P o x e h = let Q : Option X → Type 0 = λ v. IfSome v P in subst Q e h

pub none_is : {X : Type 0} (P : Type 0) (o : Option X) → o ≡ None → IfNone o P → P
none_is {X = X} P o e h = let Q : Option X → Type 0 = λ v. IfNone v P in subst Q e h

module _ {X : Type 0} where
  pub stands_left : (xs ys : List X) (i : ℕ) (x : X) → slice_get xs i ≡ Some x → slice_get (xs ++ ys) i ≡ Some x
  stands_left [] ys i x h = cc
  stands_left (z ∷ xs) ys zero x h = h
  stands_left (z ∷ xs) ys (suc i) x h = stands_left xs ys i x h

  pub stands_last : (xs : List X) (x : X) → slice_get (xs ++ x ∷ []) (length xs) ≡ Some x
  stands_last [] x = refl
  stands_last (z ∷ xs) x = stands_last xs x

  pub stands_cases : (xs : List X) (y : X) (i : ℕ) (x : X) → slice_get (xs ++ y ∷ []) i ≡ Some x
      → (slice_get xs i ≡ Some x) ⊎ ((i ≡ length xs) × (x ≡ y))
  stands_cases [] y zero x h = inr (refl, cc)
  stands_cases [] y (suc i) x h = cc
  stands_cases (z ∷ xs) y zero x h = inl h
  stands_cases (z ∷ xs) y (suc i) x h = elim (stands_cases xs y i x h) [ inl k ↦ inl k | inr k ↦ inr (ap suc k.0, k.1) ]

  pub one_stands : (xs : List X) (i : ℕ) (x y : X) → slice_get xs i ≡ Some x → slice_get xs i ≡ Some y → x ≡ y
  one_stands xs i x y h k = let e : Some x ≡ Some y = sym h ∙ k in cc

  pub some_at : (xs : List X) (i : ℕ) → i < length xs → (x : X) × (slice_get xs i ≡ Some x)
  some_at [] i h = absurd (omega arith)
  some_at (z ∷ xs) zero h = (z, refl)
  some_at (z ∷ xs) (suc i) h = some_at xs i (omega arith)

  pub read_at : (xs : List X) (i : ℕ) (x : X) → i < length xs → x ≡ get_or xs i x → slice_get xs i ≡ Some x
  read_at xs i x h e = slice_get-get_or xs i x h ∙ ap Some (sym e)

  pub contains_at : (xs : List X) (i : ℕ) (x : X) → slice_get xs i ≡ Some x → Contains xs x
  contains_at xs i x h = (i, slice_get_within xs i x h, get_or_from_slice_get xs i x x h)

  pub at_contains : (xs : List X) (x : X) → Contains xs x → (i : ℕ) × (slice_get xs i ≡ Some x)
  at_contains xs x h = (h.0, slice_get-get_or xs h.0 x h.1 ∙ ap Some h.2)

-- two lists of one length are equal where what stands at a place of both is
pub same_by_place : {A : Type 0} (xs ys : List A) → length xs ≡ length ys
    → ((k : ℕ) (x y : A) → slice_get xs k ≡ Some x → slice_get ys k ≡ Some y → x ≡ y) → xs ≡ ys
same_by_place [] [] l same = refl
same_by_place [] (y ∷ ys) l same = absurd (omega arith)
same_by_place (x ∷ xs) [] l same = absurd (omega arith)
same_by_place (x ∷ xs) (y ∷ ys) l same =
    let e = same 0 x y refl refl in
    let t = same_by_place xs ys (omega arith) (λ k a b. same (suc k) a b) in
    cc (e, t)
