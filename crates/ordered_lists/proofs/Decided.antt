-- Searches that are finite, and so decide.
use Rattle.std.proofs.Common.{◌≡◌, ℕ, zero, suc, ◌<◌, List, [], ◌∷◌, ◌⊎◌, inl, inr, refl, sym, subst, arith, Bool, true}
use Rattle.std.proofs.Common.{false, ℤ}
use Rattle.std.specs.Ordering.{int_eq}
use Rattle.std.proofs.lemmas.Bool.Decides.{Decides-int_eq}
use Rattle.std.proofs.lemmas.Bool.{false≢true}
use Rattle.ordered_lists.proofs.ListMembers.{In}

abbrev pub Decided : Type 0 → Type 0
Decided A = A ⊎ (A → ⊥)

pub decided_both : {A B : Type 0} → Decided A → Decided B → Decided (A × B)
decided_both (inl a) (inl b) = inl (a, b)
decided_both (inl a) (inr n) = inr (λ p. n p.1)
decided_both (inr n) d = inr (λ p. n p.0)

pub decided_not : {A : Type 0} → Decided A → Decided (A → ⊥)
decided_not (inl a) = inr (λ n. n a)
decided_not (inr n) = inl n

pub decided_like : {A B : Type 0} → (A → B) → (B → A) → Decided A → Decided B
decided_like f g (inl a) = inl (f a)
decided_like f g (inr n) = inr (λ b. n (g b))

pub decided_true : (b : Bool) → Decided (b ≡ true)
decided_true true = inl refl
decided_true false = inr (λ e. false≢true e)

pub decided_false : (b : Bool) → Decided (b ≡ false)
decided_false true = inr (λ e. false≢true (sym e))
decided_false false = inl refl

pub decided_int : (x y : ℤ) → Decided (x ≡ y)
decided_int x y = decided_like (Decides-int_eq x y).0 (Decides-int_eq x y).1 (decided_true (int_eq x y))

in_more : {A : Type 0} (Q : A → Type 0) (x : A) (xs : List A) → Decided (Q x)
    → ((a : A) × In a xs × Q a) ⊎ ((a : A) → In a xs → Q a → ⊥)
    → ((a : A) × In a (x ∷ xs) × Q a) ⊎ ((a : A) → In a (x ∷ xs) → Q a → ⊥)
in_more Q x xs (inl q) r = inl (x, inl refl, q)
in_more Q x xs (inr n) (inl r) = inl (r.0, inr r.1, r.2)
in_more Q x xs (inr n) (inr r) = inr (λ a i q. elim i [ inl e ↦ n (subst Q e q) | inr j ↦ r a j q ])

-- some member has the property, or none has
pub some_in : {A : Type 0} (Q : A → Type 0) → ((a : A) → Decided (Q a)) → (xs : List A)
    → ((a : A) × In a xs × Q a) ⊎ ((a : A) → In a xs → Q a → ⊥)
some_in Q each [] = inr (λ a i q. i)
some_in Q each (x ∷ xs) = in_more Q x xs (each x) (some_in Q each xs)

pub order : (i j : ℕ) → (i < j) ⊎ ((i ≡ j) ⊎ (j < i))
order i j = grind arith

below_cases : (k n : ℕ) → k < suc n → (k ≡ n) ⊎ (k < n)
below_cases k n h = grind arith

below_more : (Q : ℕ → Type 0) (n : ℕ) → Decided (Q n) → ((k : ℕ) × (k < n) × Q k) ⊎ ((k : ℕ) → k < n → Q k → ⊥)
    → ((k : ℕ) × (k < suc n) × Q k) ⊎ ((k : ℕ) → k < suc n → Q k → ⊥)
below_more Q n (inl q) r = inl (n, omega arith, q)
below_more Q n (inr m) (inl r) = let l = r.1 in inl (r.0, omega arith, r.2)
below_more Q n (inr m) (inr r) = inr (λ k l q. elim (below_cases k n l) [ inl e ↦ m (subst Q e q) | inr j ↦ r k j q ])

-- some number below n has the property, or none has
pub some_below : (Q : ℕ → Type 0) → ((k : ℕ) → Decided (Q k)) → (n : ℕ)
    → ((k : ℕ) × (k < n) × Q k) ⊎ ((k : ℕ) → k < n → Q k → ⊥)
some_below Q each zero = inr (λ k l q. omega arith)
some_below Q each (suc n) = below_more Q n (each n) (some_below Q each n)
