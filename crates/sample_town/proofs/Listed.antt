-- One number more: what it adds to a list of what a function gives, and to the times that a function is applied.
use Rattle.std.proofs.Common.{◌≡◌, refl, ap, sym, ◌∙◌, ℕ, zero, suc, ◌+◌, List, [], ◌∷◌, ◌++◌}
use Rattle.std.proofs.Common.{add-one, add-zero, add-suc, append_assoc, append-nil}
use Rattle.sample_town.specs.Draws.{listed, iterate}

pub listed_none : {A : Type 0} (f : ℕ → A) (xs : List A) → xs ≡ xs ++ listed f 0
unfolding listed
listed_none f xs = sym (append-nil xs)

pub listed_more : {A : Type 0} (f : ℕ → A) (i : ℕ) (xs ys zs : List A) (x : A) → ys ≡ xs ++ listed f i → x ≡ f i
    → zs ≡ ys ++ x ∷ [] → zs ≡ xs ++ listed f (i + 1)
unfolding listed
listed_more f i xs ys zs x before is pushed =
    pushed ∙ ap (λ us. us ++ x ∷ []) before ∙ ap (λ y. (xs ++ listed f i) ++ y ∷ []) is
    ∙ append_assoc xs (listed f i) (f i ∷ [])
    ∙ ap (λ n. xs ++ listed f n) (sym (add-one i))

pub listed_same : {A : Type 0} (f g : ℕ → A) (count : ℕ) → ((i : ℕ) → f i ≡ g i) → listed f count ≡ listed g count
unfolding listed
listed_same f g zero same = refl
listed_same f g (suc count) same =
    ap (λ xs. xs ++ f count ∷ []) (listed_same f g count same) ∙ ap (λ x. listed g count ++ x ∷ []) (same count)

pub iterate_none : (f : ℕ → ℕ) (s : ℕ) → s ≡ iterate f 0 s
unfolding iterate
iterate_none f s = refl

pub iterate_next : (f : ℕ → ℕ) (i s : ℕ) → f (iterate f i s) ≡ iterate f (i + 1) s
unfolding iterate
iterate_next f i s = ap (λ n. iterate f n s) (sym (add-one i))

pub iterate_sum : (f : ℕ → ℕ) (i j s : ℕ) → iterate f (i + j) s ≡ iterate f j (iterate f i s)
unfolding iterate
iterate_sum f i zero s = ap (λ n. iterate f n s) (add-zero i)
iterate_sum f i (suc j) s = ap (λ n. iterate f n s) (add-suc i j) ∙ ap f (iterate_sum f i j s)
