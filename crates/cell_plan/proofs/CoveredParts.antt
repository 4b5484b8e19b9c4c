-- Cells that cover a part of the world.
use Rattle.std.proofs.Common.{◌≡◌, ℕ, ◌/◌, ◌<◌, ◌||◌, Bool, true, false, List, []}
use Rattle.std.proofs.Common.{◌∷◌, ◌++◌, inl, inr, IsTrue, Contains}
use Rattle.std.proofs.Common.{Some, slice_get, refl, sym, subst, arith}
use Rattle.std.proofs.lemmas.Bool.{or_cases, or_left, or_right, false≢true}
use Rattle.std.proofs.lemmas.List.Elements.{Contains-append_left, Contains-append_right}
use Rattle.std.proofs.lemmas.Option.{slice_get_within}
use Rattle.ordered_lists.proofs.ListMembers.{contains_more, contains_head, contains_none}
use Rattle.ordered_lists.proofs.ListPlaces.{stands_cases, contains_at}
use Rattle.road_base.specs.declared.location.Location.{Location}
use Rattle.map_cells.specs.Areas.{is_in, AreApart}
use Rattle.cell_plan.specs.declared.cells.PlannedCell.{PlannedCell}
use Rattle.cell_plan.specs.declared.intervals.Rect.{Rect}
use Rattle.cell_plan.specs.Grids.{units_east, units_north, in_rect, in_squares, AreQuadrants}
use Rattle.cell_plan.specs.Dividing.{Covers}

-- no cells cover nothing
pub covers_none : Covers (λ p. false) []
covers_none = record {
  all = λ p h. absurd (false≢true h);
  within = λ p c has h. absurd (contains_none c has);
  apart = λ i j c d less at next. absurd (contains_none c (contains_at [] i c at));
}

-- the same part
pub covers_like : (part other : Location → Bool) (cells : List PlannedCell) → ((p : Location) → part p ≡ other p)
    → Covers part cells → Covers other cells
covers_like part other cells same covers = record {
  all = λ p h. covers.all p (subst IsTrue (sym (same p)) h);
  within = λ p c has h. subst IsTrue (same p) (covers.within p c has h);
  apart = covers.apart;
}

-- one cell more, which has the places of another part
module _ (part other : Location → Bool) (cells longer : List PlannedCell) (c : PlannedCell)
    (is : longer ≡ cells ++ c ∷ [])
    (covers : Covers part cells) (cell_is : (p : Location) → is_in c.cell p ≡ other p)
    (separate : (p : Location) → IsTrue (part p) → IsTrue (other p) → ⊥) where
  has_all : (p : Location) → IsTrue (part p || other p)
      → (d : PlannedCell) × Contains (cells ++ c ∷ []) d × IsTrue (is_in d.cell p)
  has_all p h = elim (or_cases (part p) (other p) h) [
    | inl old ↦ let r = covers.all p old in (r.0, Contains-append_left cells (c ∷ []) r.0 r.1, r.2)
    | inr new ↦ (c, Contains-append_right cells (c ∷ []) c (contains_head c []), subst IsTrue (sym (cell_is p)) new)
  ]

  is_within : (p : Location) (d : PlannedCell) → Contains (cells ++ c ∷ []) d → IsTrue (is_in d.cell p)
      → IsTrue (part p || other p)
  is_within p d has h = elim (contains_more cells c d has) [
    | inl old ↦ or_left (part p) (other p) (covers.within p d old h)
    | inr new ↦
        let here : IsTrue (is_in c.cell p) = subst (λ (v : PlannedCell). IsTrue (is_in v.cell p)) new h in
        or_right (part p) (other p) (subst IsTrue (cell_is p) here)
  ]

  last_apart : (d : PlannedCell) → Contains cells d → AreApart d.cell c.cell
  last_apart d has = λ p h k. separate p (covers.within p d has h) (subst IsTrue (cell_is p) k)

  are_apart : (i j : ℕ) (d e : PlannedCell) → i < j → slice_get (cells ++ c ∷ []) i ≡ Some d
      → slice_get (cells ++ c ∷ []) j ≡ Some e → AreApart d.cell e.cell
  are_apart i j d e less at next = elim (stands_cases cells c i d at) [
    | inl first ↦ elim (stands_cases cells c j e next) [
      | inl second ↦ covers.apart i j d e less first second
      | inr last ↦ subst (λ (v : PlannedCell). AreApart d.cell v.cell) (sym last.1)
          (last_apart d (contains_at cells i d first))
    ]
    | inr last ↦ elim (stands_cases cells c j e next) [
      | inl second ↦ absurd (omega (arith, last.0, slice_get_within cells j e second))
      | inr other ↦ absurd (omega (arith, last.0, other.0))
    ]
  ]

  pub covers_more : Covers (λ p. part p || other p) longer
  covers_more = subst (Covers (λ p. part p || other p)) (sym is)
      (record { all = has_all; within = is_within; apart = are_apart })

-- what is apart from two parts is apart from both together
pub apart_both : (a b c : Bool) → (IsTrue a → IsTrue c → ⊥) → (IsTrue b → IsTrue c → ⊥) → IsTrue (a || b) → IsTrue c → ⊥
apart_both a b c first second h k = elim (or_cases a b h) [ inl l ↦ first l k | inr r ↦ second r k ]

-- ---- the four parts of a square

-- from the one list to the other the cells of a square were added
abbrev pub Adds : ℕ → Rect → List PlannedCell → List PlannedCell → Type 0
Adds side square before after = (part : Location → Bool) → Covers part before
    → ((p : Location) → IsTrue (part p) → IsTrue (in_squares side square p) → ⊥)
    → Covers (λ p. part p || in_squares side square p) after

four_same : (part a b c d r : Bool) → r ≡ (((a || b) || c) || d) → ((((part || a) || b) || c) || d) ≡ (part || r)
four_same true a b c d r e = refl
four_same false a b c d r e = sym e

module _ (side : ℕ) (r a b c d : Rect) (four : AreQuadrants r a b c d) where
  pub a_within : (column row : ℕ) → IsTrue (in_rect a column row) → IsTrue (in_rect r column row)
  a_within column row h = subst IsTrue (sym (four.each column row))
      (or_left ((in_rect a column row || in_rect b column row) || in_rect c column row) (in_rect d column row)
      (or_left (in_rect a column row || in_rect b column row) (in_rect c column row)
      (or_left (in_rect a column row) (in_rect b column row) h)))

  pub b_within : (column row : ℕ) → IsTrue (in_rect b column row) → IsTrue (in_rect r column row)
  b_within column row h = subst IsTrue (sym (four.each column row))
      (or_left ((in_rect a column row || in_rect b column row) || in_rect c column row) (in_rect d column row)
      (or_left (in_rect a column row || in_rect b column row) (in_rect c column row)
      (or_right (in_rect a column row) (in_rect b column row) h)))

  pub c_within : (column row : ℕ) → IsTrue (in_rect c column row) → IsTrue (in_rect r column row)
  c_within column row h = subst IsTrue (sym (four.each column row))
      (or_left ((in_rect a column row || in_rect b column row) || in_rect c column row) (in_rect d column row)
      (or_right (in_rect a column row || in_rect b column row) (in_rect c column row) h))

  pub d_within : (column row : ℕ) → IsTrue (in_rect d column row) → IsTrue (in_rect r column row)
  d_within column row h = subst IsTrue (sym (four.each column row))
      (or_right ((in_rect a column row || in_rect b column row) || in_rect c column row) (in_rect d column row) h)

  -- cells of the four parts, added one behind another, are cells of the square
  pub covers_four : (part : Location → Bool) (cells cells_a cells_b cells_c cells_d : List PlannedCell)
      → Covers part cells → ((p : Location) → IsTrue (part p) → IsTrue (in_squares side r p) → ⊥)
      → Adds side a cells cells_a → Adds side b cells_a cells_b → Adds side c cells_b cells_c
      → Adds side d cells_c cells_d → Covers (λ p. part p || in_squares side r p) cells_d
  covers_four part cells cells_a cells_b cells_c cells_d covers separate add_a add_b add_c add_d =
      let x : Location → ℕ = λ p. units_east p / side in
      let y : Location → ℕ = λ p. units_north p / side in
      let with_a : Location → Bool = λ p. part p || in_squares side a p in
      let with_b : Location → Bool = λ p. with_a p || in_squares side b p in
      let with_c : Location → Bool = λ p. with_b p || in_squares side c p in
      let first = add_a part covers (λ p h k. separate p h (a_within (x p) (y p) k)) in
      let b_apart : (p : Location) → IsTrue (with_a p) → IsTrue (in_squares side b p) → ⊥
      = λ p. apart_both (part p) (in_squares side a p) (in_squares side b p)
      (λ h k. separate p h (b_within (x p) (y p) k)) (four.b_apart (x p) (y p)) in
      let second = add_b with_a first b_apart in
      let c_apart : (p : Location) → IsTrue (with_b p) → IsTrue (in_squares side c p) → ⊥
      = λ p. apart_both (with_a p) (in_squares side b p) (in_squares side c p)
      (apart_both (part p) (in_squares side a p) (in_squares side c p)
      (λ h k. separate p h (c_within (x p) (y p) k)) (four.c_apart.0 (x p) (y p)))
      (four.c_apart.1 (x p) (y p)) in
      let third = add_c with_b second c_apart in
      let d_apart : (p : Location) → IsTrue (with_c p) → IsTrue (in_squares side d p) → ⊥
      = λ p. apart_both (with_b p) (in_squares side c p) (in_squares side d p)
      (apart_both (with_a p) (in_squares side b p) (in_squares side d p)
      (apart_both (part p) (in_squares side a p) (in_squares side d p)
      (λ h k. separate p h (d_within (x p) (y p) k)) (four.d_apart.0 (x p) (y p)))
      (four.d_apart.1 (x p) (y p))) (four.d_apart.2 (x p) (y p)) in
      let fourth = add_d with_c third d_apart in
      covers_like (λ p. with_c p || in_squares side d p) (λ p. part p || in_squares side r p) cells_d
      (λ p. four_same (part p) (in_squares side a p) (in_squares side b p) (in_squares side c p) (in_squares side d p)
      (in_squares side r p) (four.each (x p) (y p))) fourth
