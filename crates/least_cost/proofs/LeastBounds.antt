-- What is left to drive costs at least the difference of latitudes.
use Rattle.std.proofs.Common.{◌≡◌, inl, inr, ℕ, zero, suc, ◌+◌, ◌-◌, ◌*◌, ◌<◌, ◌≤◌, List, [], ◌∷◌, length, Some, None}
use Rattle.std.proofs.Common.{Bool, true, false, cond, slice_get, take, refl, sym, ap, ◌∙◌, subst, arith, ℤ, ◌-ℤ◌, ◌+ℤ◌}
use Rattle.std.specs.Prelude.{unsigned_abs, nat_le}
use Rattle.std.proofs.lemmas.Bool.{cases_lt, le-leb}
use Rattle.std.proofs.lemmas.List.{length-take}
use Rattle.std.proofs.lemmas.Nat.{mul-le}
use Rattle.std.proofs.lemmas.Option.{slice_get_within}
use Rattle.ordered_lists.proofs.ListPlaces.{one_stands}
use Rattle.road_base.specs.declared.location.Location.{Location}
use Rattle.road_model.specs.declared.lists.Place.{Place}
use Rattle.least_cost.specs.Costs.{greatest, root, straight, narrowed, lon_difference, cost_between}
use Rattle.least_cost.specs.Latitudes.{latitudes_from, latitudes_left}
use Rattle.least_cost.specs.PlaceCosts.{first_cost, places_cost}
use Rattle.least_cost.proofs.LeastPlaces.{gap_same, gap_over}

chosen : (b : Bool) (n g r : ℕ) → r < suc n → r ≤ g → r ≤ cond b (suc n) g
chosen true n g r h k = omega arith
chosen false n g r h k = k

-- what passes is at most the greatest that does
greatest_least : (passes : ℕ → Bool) (n r : ℕ) → r ≤ n → passes r ≡ true → r ≤ greatest passes n
greatest_least passes zero r h e = h
greatest_least passes (suc n) r h e = elim (cases_lt r (suc n)) [
  | inl below ↦ chosen (passes (suc n)) n (greatest passes n) r below (greatest_least passes n r (omega arith) e)
  | inr more ↦
      let is : r ≡ suc n = omega arith in
      let same : cond (passes (suc n)) (suc n) (greatest passes n) ≡ suc n
      = ap (λ b. cond b (suc n) (greatest passes n)) (subst (λ k. passes k ≡ true) is e) in
      omega (arith, same)
]

square_above : (r : ℕ) → r ≤ r * r
square_above zero = omega arith
square_above (suc r) = let h = mul-le 1 (suc r) (suc r) (suc r) (omega arith) (omega arith) in omega arith

root_above : (n r : ℕ) → r * r ≤ n → r ≤ root n
unfolding root
root_above n r h =
    let s = square_above r in
    greatest_least (λ k. nat_le (k * k) n) n r (omega arith) (le-leb (r * r) n h)

-- the straight line is no shorter than its side
straight_above : (x y : ℕ) → y ≤ straight x y
straight_above x y = root_above (x * x + y * y) y (omega arith)

abbrev gap : ℤ → ℤ → ℕ
gap a b = unsigned_abs (a -ℤ b)

-- a step costs more than its difference of latitudes
step_above : (x y : Location) → gap x.lat y.lat + 1 ≤ cost_between x y
unfolding cost_between
step_above x y =
    let h = straight_above (narrowed (lon_difference x.lon y.lon) (unsigned_abs (x.lat +ℤ y.lat))) (gap x.lat y.lat) in
    omega arith

last_more : (x y : Place) (ys : List Place) (to : Location)
    → latitudes_left (x ∷ (y ∷ ys)) to ≡ latitudes_left (y ∷ ys) to
last_more x y ys to =
    let e : length (x ∷ (y ∷ ys)) - 1 ≡ suc (length (y ∷ ys) - 1) = omega arith in
    ap (λ k. latitudes_from (slice_get (x ∷ (y ∷ ys)) k) to) e

last_one : (x : Place) (to : Location) → latitudes_left (x ∷ []) to ≡ gap x.location.lat to.lat
last_one x to =
    let e : length (x ∷ []) - 1 ≡ 0 = omega arith in
    ap (λ k. latitudes_from (slice_get (x ∷ []) k) to) e

-- from the first of the places on
pub first_left : (x : Place) (xs : List Place) (to : Location)
    → gap x.location.lat to.lat ≤ places_cost (x ∷ xs) + latitudes_left (x ∷ xs) to
first_left x [] to = let e = last_one x to in omega (arith, e)
first_left x (y ∷ ys) to =
    let a = gap_over x.location.lat y.location.lat to.lat in
    let b = step_above x.location y.location in
    let c = first_left y ys to in
    let d = last_more x y ys to in
    omega (arith, a, b, c, d)

taken_stands : {X : Type 0} → (n : ℕ) (xs : List X) (k : ℕ) (x : X) → k < n → slice_get xs k ≡ Some x
    → slice_get (take n xs) k ≡ Some x
taken_stands zero xs k x h e = absurd (omega arith)
taken_stands (suc n) [] k x h e = e
taken_stands (suc n) (y ∷ ys) zero x h e = e
taken_stands (suc n) (y ∷ ys) (suc k) x h e = taken_stands n ys k x (omega arith) e

-- nothing is left where the places end at the location
none_left : (places : List Place) (j : ℕ) (y : Place) (to : Location) → slice_get places (j + 1) ≡ Some y
    → y.location ≡ to → latitudes_left (take (j + 2) places) to ≡ 0
none_left places j y to at is =
    let within = slice_get_within places (j + 1) y at in
    let l = length-take (j + 2) places in
    let last : length (take (j + 2) places) - 1 ≡ j + 1 = omega arith in
    let here = taken_stands (j + 2) places (j + 1) y (omega arith) at in
    ap (λ k. latitudes_from (slice_get (take (j + 2) places) k) to) last
    ∙ ap (λ o. latitudes_from o to) here
    ∙ ap (λ z. gap z.lat to.lat) is
    ∙ gap_same to.lat

-- what is left from the first place on, where the piece is driven to its end
pub whole_left : (places : List Place) (x : Place) (to : Location) → slice_get places 0 ≡ Some x
    → gap x.location.lat to.lat ≤ latitudes_left places to + places_cost places
whole_left [] x to e = cc
whole_left (y ∷ ys) x to e =
    let same : y ≡ x = cc in
    let h = subst (λ z. gap z.location.lat to.lat ≤ places_cost (y ∷ ys) + latitudes_left (y ∷ ys) to) same
    (first_left y ys to) in
    omega (arith, h)

-- and where it is driven up to a step that ends at the location
pub part_left : (places : List Place) (j : ℕ) (x y : Place) (to : Location) → slice_get places 0 ≡ Some x
    → slice_get places (j + 1) ≡ Some y → y.location ≡ to
    → gap x.location.lat to.lat ≤ places_cost (take (j + 2) places)
part_left places j x y to at_x at_y is =
    let h = whole_left (take (j + 2) places) x to (taken_stands (j + 2) places 0 x (omega arith) at_x) in
    let none = none_left places j y to at_y is in
    omega (arith, h, none)
