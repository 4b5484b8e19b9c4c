-- What is dropped of a part of a list.
use Rattle.std.proofs.Common.{◌≡◌, ℕ, zero, suc, ◌-◌, List, [], ◌∷◌, take, drop, refl, sym, ◌∙◌, ap, arith}

taken_none : {X : Type 0} → (n : ℕ) (xs : List X) → xs ≡ [] → xs ≡ take n xs
taken_none zero xs e = e
taken_none (suc n) [] e = refl
taken_none (suc n) (x ∷ xs) e = cc

pub taken_dropped : {X : Type 0} → (i n : ℕ) (xs : List X) → drop i (take n xs) ≡ take (n - i) (drop i xs)
taken_dropped zero n xs = let e : n ≡ n - 0 = omega arith in ap (λ k. take k xs) e
taken_dropped (suc i) zero [] = let e : 0 ≡ 0 - suc i = omega arith in ap (λ k. take k []) e
taken_dropped (suc i) zero (x ∷ xs) = let e : 0 - suc i ≡ 0 = omega arith in ap (λ k. take k (drop i xs)) (sym e)
taken_dropped (suc i) (suc n) [] = taken_none (suc n - suc i) [] refl
taken_dropped (suc i) (suc n) (x ∷ xs) =
    let e : n - i ≡ suc n - suc i = omega arith in
    taken_dropped i n xs ∙ ap (λ k. take k (drop i xs)) e
