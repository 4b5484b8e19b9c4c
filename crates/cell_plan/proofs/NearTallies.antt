-- Tallies of squares near one, and the places in such squares.
use Rattle.std.proofs.Common.{◌≡◌, ℕ, ◌+◌, ◌/◌, ◌<◌, Bool, false, cond, List, [], ◌∷◌, ◌++◌, length, take}
use Rattle.std.proofs.Common.{get_or, inl, inr, IsTrue, sym, ap, ◌∙◌, arith}
use Rattle.std.proofs.lemmas.Bool.{both_ways, cases_Bool, or_cases, or_left, or_right}
use Rattle.std.proofs.lemmas.List.Sums.{sum_by_push, sum_by_more}
use Rattle.cell_plan.specs.declared.intervals.Rect.{Rect}
use Rattle.cell_plan.specs.declared.sums.Tally.{Tally}
use Rattle.cell_plan.specs.Grids.{in_rect, is_near, touched, HasEdgesInside}
use Rattle.cell_plan.specs.Sums.{tallied, weight}
use Rattle.cell_plan.specs.Dividing.{AreNear, KeepsNear}
use Rattle.cell_plan.proofs.IntervalNumbers.{rect_parts, rect_from, div_mono}

weight_none : (wanted : ℕ → ℕ → Bool) (t : Tally) → wanted t.column t.row ≡ false → weight wanted t ≡ 0
weight_none wanted t off = λ i. cond (off i) t.count 0

module _ (square around : Rect) where
  -- what isn't near isn't wanted
  weight_far : (wanted : ℕ → ℕ → Bool) (t : Tally) → AreNear square around wanted
      → is_near square around t.column t.row ≡ false → weight wanted t ≡ 0
  weight_far wanted t near far = elim (cases_Bool (wanted t.column t.row)) [
    | inl on ↦ absurd (both_ways (is_near square around t.column t.row) far (near t.column t.row on))
    | inr off ↦ weight_none wanted t off
  ]

  -- one more of the tallies is near, and kept
  pub keeps_more : (all kept longer : List Tally) (i : ℕ) (d : Tally) → i < length all
      → longer ≡ kept ++ get_or all i d ∷ [] → KeepsNear square around (take i all) kept
      → KeepsNear square around (take (i + 1) all) longer
  keeps_more all kept longer i d within is keeps = record {
    each = λ wanted near. ap (tallied wanted) is ∙ (sum_by_push (weight wanted) kept (get_or all i d)
        ∙ (ap (λ n. n + weight wanted (get_or all i d)) (keeps.each wanted near)
        ∙ sym (sum_by_more (weight wanted) all i d within)));
  }

  -- or isn't
  pub keeps_same : (all kept : List Tally) (i : ℕ) (d : Tally) → i < length all
      → is_near square around (get_or all i d).column (get_or all i d).row ≡ false
      → KeepsNear square around (take i all) kept → KeepsNear square around (take (i + 1) all) kept
  keeps_same all kept i d within far keeps = record {
    each = λ wanted near.
        let zero_more = weight_far wanted (get_or all i d) near far in
        let more = sum_by_more (weight wanted) all i d within in
        omega (arith, keeps.each wanted near, more, zero_more);
  }

-- what touches units touches those around them
pub touched_more : (side : ℕ) → 0 < side → (a b : Rect) → HasEdgesInside a b → (column row : ℕ)
    → IsTrue (in_rect (touched side a) column row) → IsTrue (in_rect (touched side b) column row)
touched_more side positive a b inside column row h =
    let i = rect_parts (touched side a) column row h in
    let west = div_mono b.columns.start a.columns.start side positive inside.west in
    let east = div_mono a.columns.end b.columns.end side positive inside.east in
    let south = div_mono b.rows.start a.rows.start side positive inside.south in
    let north = div_mono a.rows.end b.rows.end side positive inside.north in
    rect_from (touched side b) column row (omega (arith, west, i.column_in.from))
    (omega (arith, east, i.column_in.before))
    (omega (arith, south, i.row_in.from)) (omega (arith, north, i.row_in.before))

-- what is in units is in a square that touches them
pub in_touched : (side : ℕ) → 0 < side → (units : Rect) (x y : ℕ) → IsTrue (in_rect units x y)
    → IsTrue (in_rect (touched side units) (x / side) (y / side))
in_touched side positive units x y h =
    let i = rect_parts units x y h in
    let west = div_mono units.columns.start x side positive i.column_in.from in
    let east = div_mono x units.columns.end side positive (omega (arith, i.column_in.before)) in
    let south = div_mono units.rows.start y side positive i.row_in.from in
    let north = div_mono y units.rows.end side positive (omega (arith, i.row_in.before)) in
    rect_from (touched side units) (x / side) (y / side) west (omega (arith, east)) south (omega (arith, north))

-- squares of a part, and what touches less, are near where those of the whole and what touches more are
pub nearer : (side : ℕ) → 0 < side → (part square a b : Rect)
    → ((column row : ℕ) → IsTrue (in_rect part column row) → IsTrue (in_rect square column row)) → HasEdgesInside a b
    → AreNear square (touched side b) (is_near part (touched side a))
nearer side positive part square a b within inside = λ column row h.
    elim (or_cases (in_rect part column row) (in_rect (touched side a) column row) h) [
      | inl here ↦ or_left (in_rect square column row) (in_rect (touched side b) column row) (within column row here)
      | inr there ↦ or_right (in_rect square column row) (in_rect (touched side b) column row)
          (touched_more side positive a b inside column row there)
    ]
