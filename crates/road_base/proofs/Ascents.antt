-- Whether tags ascend, told from neighbouring keys.
use Rattle.std.proofs.Common.{◌≡◌, ℕ, zero, suc, ◌-◌, ◌+◌, ◌<◌, ◌≤◌, Bool, true, false, List, [], ◌∷◌, length, get_or}
use Rattle.std.proofs.Common.{drop, refl, sym, ap, ◌∙◌, arith, is_ge, nat_cmp}
use Rattle.std.specs.Ordering.{is_lt}
use Rattle.std.specs.declared.cmp.Ordering.{Ordering}
use Rattle.std.specs.declared.cmp.Ordering.TheVariants.{Less, Equal, Greater}
use Rattle.std.specs.Cmp.Lexicographic.{slice_cmp}
use Rattle.road_base.specs.Tags.{TagList, is_ascending}

lt_of_not_ge : (r : Ordering) → is_ge r ≡ false → is_lt r ≡ true
lt_of_not_ge Less e = refl
lt_of_not_ge Equal e = cc
lt_of_not_ge Greater e = cc

-- whether the key at a place is not below that at the next
abbrev is_not_below : TagList → ℕ → List ℕ × List ℕ → List ℕ × List ℕ → Bool
is_not_below ts i d e = is_ge (slice_cmp nat_cmp (get_or ts i d).0 (get_or ts (suc i) e).0)

-- behind a key that is below the next, the rest decides
goes_on : (ts : TagList) (i : ℕ) (d e : List ℕ × List ℕ) → suc i < length ts → is_not_below ts i d e ≡ false
    → is_ascending (drop i ts) ≡ is_ascending (drop (suc i) ts)
goes_on [] i d e within below = absurd (omega arith)
goes_on (t ∷ []) i d e within below = absurd (omega arith)
goes_on (t ∷ u ∷ ts) zero d e within below = rw (lt_of_not_ge _ below) refl
goes_on (t ∷ u ∷ ts) (suc i) d e within below = goes_on (u ∷ ts) i d e (omega arith) below

-- the last key ascends
pub ends : (ts : TagList) (i : ℕ) → length ts ≤ suc i → is_ascending (drop i ts) ≡ true
ends [] zero end = refl
ends [] (suc i) end = refl
ends (t ∷ []) zero end = refl
ends (t ∷ u ∷ ts) zero end = absurd (omega arith)
ends (t ∷ ts) (suc i) end = ends ts i (omega arith)

-- the same at a place and the one before it, with what stands there
compared : (ts : TagList) (i at : ℕ) (d e : List ℕ × List ℕ) (a b : List ℕ) (r : Bool) → suc i ≡ at
    → a ≡ (get_or ts i d).0 → b ≡ (get_or ts at e).0 → is_ge (slice_cmp nat_cmp a b) ≡ r → is_not_below ts i d e ≡ r
compared ts i at d e a b r next first second is =
    let second' : b ≡ (get_or ts (suc i) e).0 = rw next second in rw (sym first, sym second') is

pub goes_on_at : (ts : TagList) (at : ℕ) (d e : List ℕ × List ℕ) (a b : List ℕ) → 1 ≤ at → at < length ts
    → a ≡ (get_or ts (at - 1) d).0 → b ≡ (get_or ts at e).0 → is_ge (slice_cmp nat_cmp a b) ≡ false
    → is_ascending (drop (at - 1) ts) ≡ is_ascending (drop (at + 1 - 1) ts)
goes_on_at ts at d e a b some within first second below =
    let next : suc (at - 1) ≡ at = omega arith in
    let last : suc (at - 1) ≡ at + 1 - 1 = omega arith in
    let on = goes_on ts (at - 1) d e (omega arith) (compared ts (at - 1) at d e a b false next first second below) in
    on ∙ ap (λ n. is_ascending (drop n ts)) last
