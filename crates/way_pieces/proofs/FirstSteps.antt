-- Where a step stands in a piece, and where it leads.
use Rattle.std.proofs.Common.{
  ◌≡◌,
  ℕ,
  zero,
  suc,
  ◌+◌,
  ◌-◌,
  ◌<◌,
  ◌≤◌,
  List,
  [],
  ◌∷◌,
  slice_get,
  Some,
  IsTrue,
  sym,
  ap,
  subst,
  ◌∙◌,
  arith,
  add-zero,
}
use Rattle.road_base.specs.declared.ids.NodeId.{NodeId}
use Rattle.road_base.specs.declared.ids.WayId.{WayId}
use Rattle.road_base.specs.declared.ids.Step.{Step}
use Rattle.road_base.specs.declared.ids.Dir.{Dir}
use Rattle.road_base.specs.declared.ids.Dir.TheVariants.{Forward, Backward}
use Rattle.road_base.specs.Objects.{Objects}
use Rattle.road_model.specs.Rules.{Rules}
use Rattle.road_model.specs.Lines.{
  node_at,
  head_of,
  head_position,
  tail_position,
  forward_steps,
  backward_steps,
  steps_from,
}
use Rattle.road_model.specs.Driving.{located, drivable}
use Rattle.road_model.specs.Pieces.{Span, IsPiece, spell}
use Rattle.road_model.proofs.StepEnds.{some_located}
use Rattle.road_model.proofs.StepPlaces.{some_step}
use Rattle.way_lines.proofs.NamedPairs.{drivable_within}
use Rattle.way_pieces.proofs.DrivenSteps.{drivable_parts, named_end}

-- the position where one is after k of n steps
abbrev pub place_after : Dir → ℕ → ℕ → ℕ → ℕ
place_after Forward i n k = i + k
place_after Backward i n k = i + n - k

-- the step is the k-th of those n
pub record IsAt (w : WayId) (i n : ℕ) (d : Dir) (k : ℕ) (s : Step) : Type 0 where
  pub way : s.way ≡ w
  pub dir : s.dir ≡ d
  pub below : k < n
  pub place : tail_position d s.index ≡ place_after d i n k

forward_at : (w : WayId) (i n k : ℕ) (s : Step) → slice_get (forward_steps w i n) k ≡ Some s → IsAt w i n Forward k s
forward_at w i zero k s e = cc
forward_at w i (suc n) zero s e =
    let same : record { way = w; index = i; dir = Forward } ≡ s = some_step _ s e in
    record {
      way = sym (ap (λ x. x.way) same);
      dir = sym (ap (λ x. x.dir) same);
      below = omega arith;
      place = sym (ap (λ x. x.index) same) ∙ sym (add-zero i);
    }
forward_at w i (suc n) (suc k) s e =
    let r = forward_at w (i + 1) n k s e in
    let below = r.below in
    let place = r.place in
    record { way = r.way; dir = r.dir; below = omega arith; place = omega arith }

backward_at : (w : WayId) (i n k : ℕ) (s : Step) → slice_get (backward_steps w i n) k ≡ Some s → IsAt w i n Backward k s
backward_at w i zero k s e = cc
backward_at w i (suc n) zero s e =
    let same : record { way = w; index = i + n; dir = Backward } ≡ s = some_step _ s e in
    let index : i + n ≡ s.index = ap (λ x. x.index) same in
    record {
      way = sym (ap (λ x. x.way) same);
      dir = sym (ap (λ x. x.dir) same);
      below = omega arith;
      place = omega arith;
    }
backward_at w i (suc n) (suc k) s e =
    let r = backward_at w i n k s e in
    let below = r.below in
    let place = r.place in
    record { way = r.way; dir = r.dir; below = omega arith; place = omega arith }

steps_at : (w : WayId) (i n : ℕ) (d : Dir) (k : ℕ) (s : Step) → slice_get (steps_from w i n d) k ≡ Some s
    → IsAt w i n d k s
steps_at w i n Forward k s e = forward_at w i n k s e
steps_at w i n Backward k s e = backward_at w i n k s e

within : (d : Dir) (i j k m : ℕ) → i < j → k < j - i → tail_position d m ≡ place_after d i (j - i) k → (i ≤ m) × (m < j)
within Forward i j k m up below e = (omega arith, omega arith)
within Backward i j k m up below e = (omega arith, omega arith)

-- ---- pieces

module _ (M : Objects) (P : Rules) where
  module _ (p : Span) (is : IsPiece M P p) (s : Step) (k : ℕ) (at : slice_get (spell p) k ≡ Some s) where
    pub stands : IsAt p.way p.index (p.end - p.index) p.dir k s
    stands = steps_at p.way p.index (p.end - p.index) p.dir k s at

    -- a piece's steps are drivable
    pub step_drives : IsTrue (drivable M P s)
    step_drives =
        let places = within p.dir p.index p.end k s.index is.ascends stands.below stands.place in
        let same : record { way = p.way; index = s.index; dir = p.dir } ≡ s = λ x.
        record { way = sym stands.way x; index = s.index; dir = sym stands.dir x } in
        subst (λ t. IsTrue (drivable M P t)) same (is.drives s.index places.0 places.1)

  module _ (s : Step) (drives : IsTrue (drivable M P s)) where
    head_by : (d : Dir) → IsTrue (located M (node_at M s.way s.index))
        → IsTrue (located M (node_at M s.way (s.index + 1)))
        → (v : NodeId) × (node_at M s.way (head_position d s.index) ≡ Some v)
    head_by Forward low high = some_located M _ high
    head_by Backward low high = some_located M _ low

    -- a drivable step leads to a node
    pub head_there : (v : NodeId) × (head_of M s ≡ Some v)
    head_there =
        let parts = drivable_parts M P s drives in
        let at = head_by s.dir (parts.1).0 (parts.1).1 in
        (at.0, named_end M s (head_position s.dir s.index) (drivable_within M P s drives) ∙ at.1)

-- a list with a first step
pub front : (xs : List Step) (s : Step) → slice_get xs 0 ≡ Some s → (more : List Step) × (xs ≡ s ∷ more)
front [] s e = cc
front (x ∷ xs) s e = (xs, ap (λ y. y ∷ xs) (some_step x s e))
