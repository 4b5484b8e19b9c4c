-- Numbers of intervals, and what is divided by the side of a grid.
use Rattle.std.proofs.Common.{◌≡◌, ℕ, ◌+◌, ◌-◌, ◌*◌, ◌/◌, ◌<◌, ◌≤◌, ◌^◌, IsTrue, Bool, max}
use Rattle.std.proofs.Common.{min, ltb, leb, inl, inr, arith}
use Rattle.std.proofs.lemmas.Bool.{and_parts, and_from, leb-true, ltb-true, le-leb, lt-ltb, cases_lt}
use Rattle.std.proofs.lemmas.Nat.{le-div, div-add-mod', mul-le}
use Rattle.cell_plan.specs.declared.intervals.Interval.{Interval}
use Rattle.cell_plan.specs.declared.intervals.Rect.{Rect}
use Rattle.cell_plan.specs.Grids.{in_interval, in_rect}

pub record Is (s : Interval) (n : ℕ) : Type 0 where
  pub from : s.start ≤ n
  pub before : n < s.end

pub interval_parts : (s : Interval) (n : ℕ) → IsTrue (in_interval s n) → Is s n
interval_parts s n h =
    let p = and_parts (leb s.start n) (ltb n s.end) h in
    record { from = leb-true s.start n p.0; before = ltb-true n s.end p.1 }

pub interval_from : (s : Interval) (n : ℕ) → s.start ≤ n → n < s.end → IsTrue (in_interval s n)
interval_from s n from before = and_from (leb s.start n) (ltb n s.end) (le-leb s.start n from) (lt-ltb n s.end before)

-- two tests are one where each tells the other
pub same_bool : (a b : Bool) → (IsTrue a → IsTrue b) → (IsTrue b → IsTrue a) → a ≡ b
same_bool a b to from = grind arith

pub div_mono : (a b k : ℕ) → 0 < k → a ≤ b → a / k ≤ b / k
div_mono a b k positive le = le-div (a / k) b k positive (omega (arith, div-add-mod' a k))

-- which multiples of k a number is below or not below
pub div_low : (a n k : ℕ) → 0 < k → a * k ≤ n → a ≤ n / k
div_low a n k positive h = le-div a n k positive h

pub low_div : (a n k : ℕ) → 0 < k → a ≤ n / k → a * k ≤ n
low_div a n k positive h = grind (arith, div-add-mod' n k)

-- ---- intervals of squares, and the units in them

scaled_more : (a b d k : ℕ) → b ≤ a + d → b * k ≤ a * k + d * k
scaled_more a b d k h = omega (arith, mul-le b k (a + d) k h (omega arith))

module _ (side start end from to low high : ℕ) (positive : 0 < side)
    (is_low : low ≡ max (min (start * side) (2 ^ 64 - 1)) from)
    (is_high : high ≡ min (min (end * side) (2 ^ 64 - 1)) to) (small : to < 2 ^ 63) where
  pub units_length : high ≤ low + (end - start) * side
  units_length = omega (arith, scaled_more start end (end - start) side (omega arith))

  pub units_exactly : (n : ℕ) → from ≤ n → n < to
      → in_interval (record { start = low; end = high }) n
      ≡ in_interval (record { start = start; end = end }) (n / side)
  units_exactly n after before =
      let inner : Interval = record { start = low; end = high } in
      let outer : Interval = record { start = start; end = end } in
      same_bool (in_interval inner n) (in_interval outer (n / side)) (λ h.
      let i = interval_parts inner n h in
      let above : start * side ≤ n = omega (arith, i.from) in
      let below : n < end * side = omega (arith, i.before) in
      interval_from outer (n / side) (div_low start n side positive above) (elim (cases_lt (n / side) end) [
        | inl l ↦ l
        | inr le ↦ absurd (omega (arith, low_div end n side positive le))
      ]))
      (λ h.
      let i = interval_parts outer (n / side) h in
      let above = low_div start n side positive i.from in
      let below : n < end * side = elim (cases_lt n (end * side)) [
        | inl l ↦ l
        | inr le ↦ absurd (omega (arith, i.before, div_low end n side positive le))
      ] in
      interval_from inner n (omega arith) (omega arith))

-- ---- rectangles

pub record IsWithin (r : Rect) (column row : ℕ) : Type 0 where
  pub column_in : Is r.columns column
  pub row_in : Is r.rows row

pub rect_parts : (r : Rect) (column row : ℕ) → IsTrue (in_rect r column row) → IsWithin r column row
rect_parts r column row h =
    let p = and_parts (in_interval r.columns column) (in_interval r.rows row) h in
    record { column_in = interval_parts r.columns column p.0; row_in = interval_parts r.rows row p.1 }

pub rect_from : (r : Rect) (column row : ℕ) → r.columns.start ≤ column → column < r.columns.end → r.rows.start ≤ row
    → row < r.rows.end → IsTrue (in_rect r column row)
rect_from r column row west east south north = and_from (in_interval r.columns column) (in_interval r.rows row)
    (interval_from r.columns column west east) (interval_from r.rows row south north)
