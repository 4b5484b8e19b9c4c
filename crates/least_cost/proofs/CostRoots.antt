-- Roots, rounded down.
use Rattle.std.proofs.Common.{◌≡◌, ℕ, zero, suc, ◌≤◌, ◌<◌, ◌+◌, ◌*◌, Bool, true, false, cond, ap, ◌∙◌, arith}
use Rattle.std.proofs.Common.{inl, inr, subst, sym}
use Rattle.std.specs.Prelude.{nat_le}
use Rattle.std.proofs.lemmas.Bool.{le-leb, lt-leb, cases_lt}
use Rattle.std.proofs.lemmas.Nat.{mul-le}
use Rattle.least_cost.specs.Costs.{greatest, root}

-- the greatest that passes, where none above it does
greatest_is : (passes : ℕ → Bool) (n r : ℕ) → r ≤ n → passes r ≡ true
    → ((k : ℕ) → r < k → passes k ≡ false) → greatest passes n ≡ r
greatest_is passes zero r l here above = omega arith
greatest_is passes (suc n) r l here above = elim (cases_lt r (suc n)) [
  | inl below ↦ ap (λ b. cond b (suc n) (greatest passes n)) (above (suc n) below)
      ∙ greatest_is passes n r (omega arith) here above
  | inr same ↦
      let is : r ≡ suc n = omega arith in
      ap (λ b. cond b (suc n) (greatest passes n)) (subst (λ k. passes k ≡ true) is here) ∙ sym is
]

square_above : (r n : ℕ) → r ≤ r * r
square_above zero n = omega arith
square_above (suc r) n = let h = mul-le 1 (suc r) (suc r) (suc r) (omega arith) (omega arith) in omega arith

pub root_is : (n r : ℕ) → r * r ≤ n → n < (r + 1) * (r + 1) → root n ≡ r
unfolding root
root_is n r low high = let h = square_above r n in greatest_is (λ k. nat_le (k * k) n) n r (omega arith)
    (le-leb (r * r) n low)
    (λ k above. lt-leb (k * k) n (let g = mul-le (r + 1) (r + 1) k k (omega arith) (omega arith) in omega arith))
