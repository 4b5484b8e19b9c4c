-- Lists of numbers and of ways that ascend.
use Rattle.std.proofs.Common.{
  ◌≡◌,
  ℕ,
  zero,
  suc,
  ◌<◌,
  ◌==◌,
  nat_lt,
  Bool,
  true,
  false,
  cond,
  List,
  [],
  ◌∷◌,
  length,
  map,
  take,
  get_or,
  refl,
  subst,
  arith,
  IsTrue,
  Contains,
  Ordering,
}
use Rattle.std.specs.declared.cmp.Ordering.TheVariants.{Less, Equal, Greater}
use Rattle.std.specs.Ordering.{nat_cmp, is_lt}
use Rattle.std.specs.Cmp.{IsTotalOrder}
use Rattle.std.proofs.lemmas.Bool.{and_parts, ltb-true, false≢true}
use Rattle.ordered_lists.specs.Orders.{rises, rises_from}
use Rattle.ordered_lists.proofs.Comparisons.{over}
use Rattle.ordered_lists.proofs.AscendingLists.{rest_rises}

less_case : (p q : Bool) → is_lt (cond p Less (cond q Equal Greater)) ≡ true → p ≡ true
less_case true q h = refl
less_case false true h = absurd (false≢true h)
less_case false false h = absurd (false≢true h)

less_is_below : (a b : ℕ) → IsTrue (is_lt (nat_cmp a b)) → a < b
less_is_below a b h = ltb-true a b (less_case (nat_lt a b) (a == b) h)

above_all : (x : ℕ) (xs : List ℕ) → IsTrue (rises_from nat_cmp x (map (λ a. a) xs)) → (j : ℕ) → j < length xs
    → x < get_or xs j 0
above_all x [] up j h = absurd (omega arith)
above_all x (y ∷ ys) up zero h = less_is_below x y (and_parts _ _ up).0
above_all x (y ∷ ys) up (suc j) h =
    let p = and_parts _ _ up in
    let a : x < y = less_is_below x y p.0 in
    let b : y < get_or ys j 0 = above_all y ys p.1 j (omega arith) in
    omega arith

-- what stands before is less
pub climbs : (xs : List ℕ) → IsTrue (rises nat_cmp (map (λ a. a) xs)) → (i j : ℕ) → i < j → j < length xs
    → get_or xs i 0 < get_or xs j 0
climbs [] up i j less h = absurd (omega arith)
climbs (x ∷ xs) up zero zero less h = absurd (omega arith)
climbs (x ∷ xs) up zero (suc j) less h = above_all x xs up j (omega arith)
climbs (x ∷ xs) up (suc i) zero less h = absurd (omega arith)
climbs (x ∷ xs) up (suc i) (suc j) less h = climbs xs (rest_rises nat_cmp x (map (λ a. a) xs) up) i j (omega arith)
    (omega arith)

module _ {N : Type 0} (R : N → N → Ordering) (total : IsTotalOrder R) where
  first_below : (x : N) (xs : List N) → IsTrue (rises_from R x (map (λ a. a) xs)) → (j : ℕ) (d : N) → j < length xs
      → IsTrue (is_lt (R x (get_or xs j d)))
  first_below x [] up j d h = absurd (omega arith)
  first_below x (y ∷ ys) up zero d h = (and_parts _ _ up).0
  first_below x (y ∷ ys) up (suc j) d h = let p = and_parts _ _ up in over R total x y (get_or ys j d) p.0
      (first_below y ys p.1 j d (omega arith))

  -- what was looked at is below what comes
  pub taken_below : (xs : List N) → IsTrue (rises R (map (λ a. a) xs)) → (j : ℕ) (d y : N) → j < length xs
      → Contains (take j xs) y → IsTrue (is_lt (R y (get_or xs j d)))
  taken_below [] up j d y h has = absurd (omega arith)
  taken_below (x ∷ xs) up zero d y h (k, within, is) = absurd (omega arith)
  taken_below (x ∷ xs) up (suc j) d y h (zero, within, is) = subst (λ z. IsTrue (is_lt (R z (get_or xs j d)))) is
      (first_below x xs up j d (omega arith))
  taken_below (x ∷ xs) up (suc j) d y h (suc k, within, is) = taken_below xs (rest_rises R x (map (λ a. a) xs) up) j d
      y (omega arith) (k, omega arith, is)
