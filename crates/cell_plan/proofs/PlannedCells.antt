-- What is planned for a cell.
use Rattle.std.proofs.Common.{◌≡◌, ℕ, ◌*◌, ◌/◌, ◌<◌, ◌≤◌, ◌&&◌, ◌⊎◌, max, Bool, true, false, cond, not, List}
use Rattle.std.proofs.Common.{[], ◌∷◌, ◌++◌, inl, inr, IsTrue, Contains, sym, subst, ◌∙◌, arith, leb, ltb, refl}
use Rattle.std.proofs.Common.{ℤ, pos, ◌+ℤ◌}
use Rattle.std.specs.Prelude.{int_lt}
use Rattle.std.specs.List.{count_by}
use Rattle.std.proofs.lemmas.Int.{ints}
use Rattle.std.proofs.lemmas.Bool.{or_left, or_right}
use Rattle.std.proofs.lemmas.Bool.Decides.{nat_tests}
use Rattle.std.proofs.lemmas.List.Sums.{length-filter, sum_by-le-sum_by}
use Rattle.ordered_lists.proofs.ListMembers.{contains_more}
use Rattle.road_base.specs.declared.location.Location.{Location}
use Rattle.road_base.specs.Ranges.{is_within}
use Rattle.map_cells.specs.declared.area.Area.{Area}
use Rattle.map_cells.specs.Areas.{is_in}
use Rattle.cell_plan.specs.declared.intervals.Rect.{Rect}
use Rattle.cell_plan.specs.declared.sums.Tally.{Tally}
use Rattle.cell_plan.specs.declared.cells.PlanRule.{PlanRule}
use Rattle.cell_plan.specs.declared.cells.PlannedCell.{PlannedCell}
use Rattle.cell_plan.specs.Grids.{units_east, units_north, in_rect, in_units, in_squares, is_near, touched, width}
use Rattle.cell_plan.specs.Grids.{HasEdgesInside}
use Rattle.cell_plan.specs.Regions.{AreEdges, IsCellOf, whole_world}
use Rattle.cell_plan.specs.Sums.{tallied, lying}
use Rattle.cell_plan.specs.CellPlans.{IsWellIn, IsGrown, IsSmall, IsCounted, places_in}
use Rattle.cell_plan.specs.Dividing.{IsFarIn, HoldsNear, KeepsNear, AreFarIn, AreGrown, AreCounted}
use Rattle.cell_plan.proofs.WorldPlaces.{offsets}
use Rattle.cell_plan.proofs.NearTallies.{nearer, in_touched}
use Rattle.cell_plan.proofs.IntervalNumbers.{rect_from}

-- ---- areas, and the units in them

low_is : (low x : ℤ) (s n : ℕ) → (low +ℤ pos 1800000000) ≡ pos s → (x +ℤ pos 1800000000) ≡ pos n
    → not (int_lt x low) ≡ leb s n
low_is low x s n is at = grind (arith, ints, nat_tests)

high_is : (high x : ℤ) (e n : ℕ) → (high +ℤ pos 1800000001) ≡ pos e → (x +ℤ pos 1800000000) ≡ pos n
    → not (int_lt high x) ≡ ltb n e
high_is high x e n is at = grind (arith, ints, nat_tests)

within_is : (low high x : ℤ) (s e n : ℕ) → (low +ℤ pos 1800000000) ≡ pos s → (high +ℤ pos 1800000001) ≡ pos e
    → (x +ℤ pos 1800000000) ≡ pos n → is_within low high x ≡ (leb s n && ltb n e)
within_is low high x s e n from to at = λ i. low_is low x s n from at i && high_is high x e n to at i

pub area_is : (units : Rect) (area : Area) → AreEdges units area → (p : Location) → is_in area p ≡ in_units units p
area_is units area edges p =
    let at = offsets p in
    let x = within_is area.west area.east p.lon units.columns.start units.columns.end (units_east p) edges.west
    edges.east at.lon in
    let y = within_is area.south area.north p.lat units.rows.start units.rows.end (units_north p) edges.south
    edges.north at.lat in
    λ i. x i && y i

-- a place that is far from the units' edges is so from the area's
well_in : (margin : ℕ) (units : Rect) (area : Area) → AreEdges units area → (p : Location) → IsFarIn margin units p
    → IsWellIn margin area p
well_in margin units area edges p far =
    let at = offsets p in
    record {
      inside = subst IsTrue (sym (area_is units area edges p)) far.inside;
      west = elim far.west [
        | inl h ↦ inl (omega (arith, ints, edges.west, at.lon))
        | inr e ↦ inr (omega (arith, ints, edges.west))
      ];
      east = elim far.east [
        | inl h ↦ inl (omega (arith, ints, edges.east, at.lon))
        | inr e ↦ inr (omega (arith, ints, edges.east))
      ];
      south = elim far.south [
        | inl h ↦ inl (omega (arith, ints, edges.south, at.lat))
        | inr e ↦ inr (omega (arith, ints, edges.south))
      ];
      north = elim far.north [
        | inl h ↦ inl (omega (arith, ints, edges.north, at.lat))
        | inr e ↦ inr (omega (arith, ints, edges.north))
      ];
    }

-- ---- how many places are where

-- the places in the squares of a cell are those in its area
cell_count : (side : ℕ) (square units : Rect) (area : Area) → IsCellOf side square units → AreEdges units area
    → (places : List Location) → lying (in_rect square) side places ≡ places_in area places
cell_count side square units area cell edges places =
    let same : (p : Location) → in_squares side square p ≡ is_in area p
    = λ p. sym (cell.same p) ∙ sym (area_is units area edges p) in
    (λ i. count_by (λ p. same p i) places) ∙ sym (length-filter (λ p. is_in area p) places)

one_below : (a b : Bool) → (IsTrue a → IsTrue b) → cond a 1 0 ≤ cond b 1 0
one_below true true h = omega arith
one_below true false h = cc (h (λ i. true))
one_below false b h = omega arith

-- no more places are in an area than in the squares that touch it
near_count : (side : ℕ) → 0 < side → (square units : Rect) (area : Area) → AreEdges units area
    → (places : List Location) → places_in area places ≤ lying (is_near square (touched side units)) side places
near_count side positive square units area edges places =
    let near : Location → Bool
    = λ p. is_near square (touched side units) (units_east p / side) (units_north p / side) in
    let inside : (p : Location) → IsTrue (is_in area p) → IsTrue (near p) = λ p h.
    or_right (in_rect square (units_east p / side) (units_north p / side))
    (in_rect (touched side units) (units_east p / side) (units_north p / side))
    (in_touched side positive units (units_east p) (units_north p) (subst IsTrue (area_is units area edges p) h)) in
    let fewer = sum_by-le-sum_by (λ (p : Location). cond (is_in area p) 1 0) (λ (p : Location). cond (near p) 1 0)
    places
    (λ p. one_below (is_in area p) (near p) (inside p)) in
    omega (arith, fewer, length-filter (λ (p : Location). is_in area p) places)

itself : (r : Rect) → HasEdgesInside r r
itself r = record { west = omega arith; east = omega arith; south = omega arith; north = omega arith }

-- ---- a square whose cell has these units, grown within what is around it

module _ (side : ℕ) (square around units grown : Rect) (cell : IsCellOf side square units) (margin : ℕ)
    (far : (p : Location) → IsTrue (in_units units p) → IsFarIn margin around p → IsFarIn margin grown p)
    (known : AreFarIn margin side square around) where
  far_in : AreFarIn margin side square grown
  far_in p h = far p (subst IsTrue (sym (cell.same p)) h) (known p h)

  pub far_part : (part : Rect) → ((column row : ℕ) → IsTrue (in_rect part column row) → IsTrue
      (in_rect square column row))
      → AreFarIn margin side part grown
  far_part part within p h = far_in p (within (units_east p / side) (units_north p / side) h)

  pub is_grown : (area grown_area : Area) → AreEdges units area → AreEdges grown grown_area → IsGrown margin area
      grown_area
  is_grown area grown_area edges grown_edges p h = well_in margin grown grown_area grown_edges p
      (far_in p (subst IsTrue (area_is units area edges p ∙ cell.same p) h))

module _ (side : ℕ) (positive : 0 < side) (square around units grown : Rect) (tallies : List Tally)
    (inside : HasEdgesInside grown around) (places : List Location)
    (held : HoldsNear side square around tallies places) where
  -- what is held near a part of the square
  pub held_part : (part : Rect) (kept : List Tally) → KeepsNear square (touched side grown) tallies kept
      → ((column row : ℕ) → IsTrue (in_rect part column row) → IsTrue (in_rect square column row))
      → HoldsNear side part grown kept places
  held_part part kept keeps within = record {
    each = λ wanted near.
        keeps.each wanted (λ column row h. nearer side positive part square grown grown within (itself grown) column row
        (near column row h))
        ∙ held.each wanted (λ column row h. nearer side positive part square grown around within inside column row
        (near column row h));
  }

  -- what is told of its cell, if it isn't divided
  module _ (rule : PlanRule) (c : PlannedCell) (cell : IsCellOf side square units) (cell_edges : AreEdges units c.cell)
      (grown_edges : AreEdges grown c.grown) (count : c.count ≡ tallied (in_rect square) tallies) (near : ℕ)
      (near_is : near ≡ tallied (is_near square (touched side grown)) tallies)
      (small : (near ≤ rule.most) ⊎ (width square * side ≤ max rule.margin side)) where
    is_small : IsSmall rule side places c
    is_small = elim small [
      | inl few ↦
          let more = near_count side positive square grown c.grown grown_edges places in
          let all = held.each (is_near square (touched side grown))
          (nearer side positive square square grown around (λ column row h. h) inside) in
          inl (omega (arith, few, more, all, near_is))
      | inr short ↦ inr (omega (arith, ints, short, cell.length, cell_edges.west, cell_edges.east))
    ]

    pub is_counted : IsCounted rule side places c
    is_counted = record {
      count = count ∙ (held.each (in_rect square)
          (λ column row h. or_left (in_rect square column row) (in_rect (touched side around) column row) h)
          ∙ cell_count side square units c.cell cell cell_edges places);
      small = is_small;
    }

-- ---- one cell more

module _ (cells longer : List PlannedCell) (c : PlannedCell) (is : longer ≡ cells ++ c ∷ []) where
  old_or_new : (d : PlannedCell) → Contains longer d → Contains cells d ⊎ (d ≡ c)
  old_or_new d has = contains_more cells c d (subst (λ (l : List PlannedCell). Contains l d) is has)

  pub grown_more : (margin : ℕ) → IsGrown margin c.cell c.grown → AreGrown margin cells → AreGrown margin longer
  grown_more margin new old d has = elim (old_or_new d has) [
    | inl before ↦ old d before
    | inr same ↦ subst (λ (v : PlannedCell). IsGrown margin v.cell v.grown) (sym same) new
  ]

  pub counted_more : (rule : PlanRule) (side : ℕ) (places : List Location) → IsCounted rule side places c
      → AreCounted rule side places cells → AreCounted rule side places longer
  counted_more rule side places new old d has = elim (old_or_new d has) [
    | inl before ↦ old d before
    | inr same ↦ subst (IsCounted rule side places) (sym same) new
  ]

-- ---- the whole world

pub far_in_world : (margin side : ℕ) (square : Rect) → AreFarIn margin side square whole_world
far_in_world margin side square p h =
    let at = offsets p in
    record {
      inside = rect_from whole_world (units_east p) (units_north p) (omega arith) at.east at.south at.north;
      west = inr refl;
      east = inr refl;
      south = inr refl;
      north = inr refl;
    }
