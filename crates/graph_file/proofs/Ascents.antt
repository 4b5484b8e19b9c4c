-- Whether a list ascends, told from neighbours.
use Rattle.std.proofs.Common.{◌≡◌, ℕ, zero, suc, ◌-◌, ◌+◌, ◌<◌, ◌≤◌, Bool, true, false, List, [], ◌∷◌, length, get_or}
use Rattle.std.proofs.Common.{drop, refl, ap, ◌∙◌, arith, map}
use Rattle.std.specs.Ordering.{is_lt}
use Rattle.std.specs.declared.cmp.Ordering.{Ordering}
use Rattle.ordered_lists.specs.Orders.{rises, rises_from}

-- where one is below the next, the rest decides
goes_on : {N : Type 0} (R : N → N → Ordering) (xs : List N) (i : ℕ) (d e : N) → suc i < length xs
    → is_lt (R (get_or xs i d) (get_or xs (suc i) e)) ≡ true → rises R (drop i xs) ≡ rises R (drop (suc i) xs)
goes_on R [] i d e within below = absurd (omega arith)
goes_on R (x ∷ []) i d e within below = absurd (omega arith)
goes_on R (x ∷ y ∷ xs) zero d e within below = rw below refl
goes_on R (x ∷ y ∷ xs) (suc i) d e within below = goes_on R (y ∷ xs) i d e (omega arith) below

stops : {N : Type 0} (R : N → N → Ordering) (xs : List N) (i : ℕ) (d e : N) → suc i < length xs
    → is_lt (R (get_or xs i d) (get_or xs (suc i) e)) ≡ false → rises R (drop i xs) ≡ false
stops R [] i d e within below = absurd (omega arith)
stops R (x ∷ []) i d e within below = absurd (omega arith)
stops R (x ∷ y ∷ xs) zero d e within below = rw below refl
stops R (x ∷ y ∷ xs) (suc i) d e within below = stops R (y ∷ xs) i d e (omega arith) below

-- the last one ascends
pub ends : {N : Type 0} (R : N → N → Ordering) (xs : List N) (i : ℕ) → length xs ≤ suc i → rises R (drop i xs) ≡ true
ends R [] zero end = refl
ends R [] (suc i) end = refl
ends R (x ∷ []) zero end = refl
ends R (x ∷ y ∷ xs) zero end = absurd (omega arith)
ends R (x ∷ xs) (suc i) end = ends R xs i (omega arith)

-- the same at a place and the one before it
pub goes_on_at : {N : Type 0} (R : N → N → Ordering) (xs : List N) (at : ℕ) (d e : N) → 1 ≤ at → at < length xs
    → is_lt (R (get_or xs (at - 1) d) (get_or xs at e)) ≡ true
    → rises R (drop (at - 1) xs) ≡ rises R (drop (at + 1 - 1) xs)
goes_on_at R xs at d e some within below =
    let next : suc (at - 1) ≡ at = omega arith in
    let last : suc (at - 1) ≡ at + 1 - 1 = omega arith in
    goes_on R xs (at - 1) d e (omega arith) (rw next below) ∙ ap (λ n. rises R (drop n xs)) last

pub stops_at : {N : Type 0} (R : N → N → Ordering) (xs : List N) (at : ℕ) (d e : N) → 1 ≤ at → at < length xs
    → is_lt (R (get_or xs (at - 1) d) (get_or xs at e)) ≡ false → rises R (drop (at - 1) xs) ≡ false
stops_at R xs at d e some within below =
    let next : suc (at - 1) ≡ at = omega arith in
    stops R xs (at - 1) d e (omega arith) (rw next below)

from_names : {A N : Type 0} (R : N → N → Ordering) (name : A → N) (x : A) (xs : List A)
    → rises_from (λ a b. R (name a) (name b)) x xs ≡ rises_from R (name x) (map name xs)
from_names R name x [] = refl
from_names R name x (y ∷ xs) = rw (from_names R name y xs) refl

-- what ascends by its name has ascending names
pub by_names : {A N : Type 0} (R : N → N → Ordering) (name : A → N) (xs : List A)
    → rises (λ a b. R (name a) (name b)) xs ≡ rises R (map name xs)
by_names R name [] = refl
by_names R name (x ∷ xs) = from_names R name x xs

-- what was found of a list that is another one's
pub named : {A N : Type 0} (R : N → N → Ordering) (name : A → N) (xs ys : List A) (r : Bool)
    → r ≡ rises (λ a b. R (name a) (name b)) ys → ys ≡ xs → r ≡ rises R (map name xs)
named R name xs ys r is same = is ∙ ap (rises (λ a b. R (name a) (name b))) same ∙ by_names R name xs
