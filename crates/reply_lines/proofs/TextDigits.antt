-- The digits of a number, from the last one on.
use Rattle.std.proofs.Common.{◌≡◌, ◌≤◌, ◌<◌, ◌+◌, ◌/◌, ◌%◌, ◌^◌, ℕ, List, [], ◌∷◌, ◌++◌, length}
use Rattle.std.proofs.Common.{ap, ◌∙◌, arith, append_assoc, length-append}
use Rattle.std.specs.Fmt.{decimal}
use Rattle.std.proofs.lemmas.Fmt.{decimal_digit, decimal_step, length-decimal-le}

-- at most 20 digits
pub at_most_twenty : (n : ℕ) → n < 2 ^ 64 → length (decimal n) ≤ 20
at_most_twenty n small = length-decimal-le 20 n (omega arith) (omega arith) small

-- the last digit before what is written so far
pub last_digit : (n : ℕ) (behind : List ℕ) → 10 ≤ n → n < 2 ^ 64
    → decimal n ++ behind ≡ decimal (n / 10) ++ ((48 + n % 10) ∷ behind)
last_digit n behind many small =
    rw (decimal_step n many small) (append_assoc (decimal (n / 10)) ((48 + n % 10) ∷ []) behind)

pub one_less : (n : ℕ) → 10 ≤ n → n < 2 ^ 64 → length (decimal n) ≡ length (decimal (n / 10)) + 1
one_less n many small = ap length (decimal_step n many small)
    ∙ length-append (decimal (n / 10)) ((48 + n % 10) ∷ [])

-- the only digit
pub only_digit : (n : ℕ) (behind : List ℕ) → n < 10 → decimal n ++ behind ≡ (48 + n) ∷ behind
only_digit n behind few = ap (λ l. l ++ behind) (decimal_digit n few)

pub one_digit : (n : ℕ) → n < 10 → length (decimal n) ≡ 1
one_digit n few = ap length (decimal_digit n few)
