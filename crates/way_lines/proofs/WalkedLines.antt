-- A list that is walked from its front, and the steps of a way that is walked so.
use Rattle.std.proofs.Common.{◌≡◌, ℕ, zero, suc, ◌+◌, ◌<◌, ◌≤◌, List, [], ◌∷◌, length, drop, slice_get, Option, Some}
use Rattle.std.proofs.Common.{IsTrue, ap, ◌∙◌, inl, inr, arith, add-one}
use Rattle.std.proofs.Math.Nat.{eq-or-lt_of_le}
use Rattle.road_base.specs.declared.ids.NodeId.{NodeId}
use Rattle.road_base.specs.declared.ids.WayId.{WayId}
use Rattle.road_base.specs.declared.ids.Step.{Step}
use Rattle.road_base.specs.declared.objects.Way.{Way}
use Rattle.road_base.specs.Objects.{Objects, way_of}
use Rattle.road_model.specs.Rules.{Rules}
use Rattle.road_model.specs.Lines.{changes, refs_of, line_of, node_at}
use Rattle.road_model.specs.Driving.{drivable, Leaves}
use Rattle.way_lines.proofs.NamedPairs.{drivable_within}

-- ---- lists

-- where x and ys are left of a list from a position on, x stands there
pub at_front : {A : Type 0} (xs : List A) (i : ℕ) (x : A) (ys : List A) → drop i xs ≡ x ∷ ys → slice_get xs i ≡ Some x
at_front [] zero x ys left = cc
at_front [] (suc i) x ys left = cc
at_front (z ∷ zs) zero x ys left = let same : z ≡ x = cc in ap Some same
at_front (z ∷ zs) (suc i) x ys left = at_front zs i x ys left

-- and ys are left behind it
left_behind : {A : Type 0} (xs : List A) (i : ℕ) (x : A) (ys : List A) → drop i xs ≡ x ∷ ys → drop (suc i) xs ≡ ys
left_behind [] zero x ys left = cc
left_behind [] (suc i) x ys left = cc
left_behind (z ∷ zs) zero x ys left = cc
left_behind (z ∷ zs) (suc i) x ys left = left_behind zs i x ys left

pub behind_front : {A : Type 0} (xs : List A) (i : ℕ) (x : A) (ys : List A) → drop i xs ≡ x ∷ ys → drop (i + 1) xs ≡ ys
behind_front xs i x ys left = rw add-one (left_behind xs i x ys left)

pub length_front : {A : Type 0} (xs : List A) (i : ℕ) (x : A) (ys : List A) → drop i xs ≡ x ∷ ys
    → length xs ≡ i + (1 + length ys)
length_front [] zero x ys left = cc
length_front [] (suc i) x ys left = cc
length_front (z ∷ zs) zero x ys left = let same = ap length left in omega arith
length_front (z ∷ zs) (suc i) x ys left = let more = length_front zs i x ys left in omega arith

-- ---- ways

-- the line of a visible way is that of its references
pub visible_line : (M : Objects) (w : WayId) (body : Way) → Some body ≡ way_of M w → changes body.refs ≡ line_of M w
unfolding line_of
visible_line M w body visible = ap (λ (o : Option Way). changes (refs_of o)) visible

-- the node at a position where a way's line is walked
pub node_there : (M : Objects) (w : WayId) (i : ℕ) (x : NodeId) (ys : List NodeId) → drop i (line_of M w) ≡ x ∷ ys
    → node_at M w i ≡ Some x
unfolding node_at
node_there M w i x ys left = at_front (line_of M w) i x ys left

-- where one node is left of a line, each step that can be driven stands before it
pub before_last : (M : Objects) (P : Rules) (w : WayId) (i : ℕ) (x : NodeId) (ys : List NodeId)
    → drop i (line_of M w) ≡ x ∷ ys → ys ≡ [] → (u : Step) → u.way ≡ w → IsTrue (drivable M P u) → u.index < i
before_last M P w i x ys left none u on drives =
    let within = drivable_within M P u drives in
    let same : length (line_of M u.way) ≡ length (line_of M w) = ap (λ v. length (line_of M v)) on in
    let whole = length_front (line_of M w) i x ys left in
    let end : length ys ≡ 0 = ap length none in
    omega arith

-- no step of an empty line can be driven
pub no_line : (M : Objects) (P : Rules) (w : WayId) → line_of M w ≡ [] → (u : Step) → u.way ≡ w
    → IsTrue (drivable M P u) → ⊥
no_line M P w none u on drives =
    let within = drivable_within M P u drives in
    let empty : length (line_of M u.way) ≡ 0 = ap (λ v. length (line_of M v)) on ∙ ap length none in
    omega arith

-- no step of the way at a position below i leaves the node but t
abbrev pub NoneBelow : Objects → Rules → NodeId → Step → WayId → ℕ → Type 0
NoneBelow M P v t w i = (u : Step) → u.way ≡ w → u.index < i → Leaves M P v u → u ≡ t

pub one_more : (M : Objects) (P : Rules) (v : NodeId) (t : Step) (w : WayId) (i : ℕ) → NoneBelow M P v t w i
    → ((u : Step) → u.way ≡ w → u.index ≡ i → Leaves M P v u → u ≡ t) → NoneBelow M P v t w (i + 1)
one_more M P v t w i before here u on below goes =
    let upto : u.index ≤ i = omega arith in
    elim (eq-or-lt_of_le upto) [
      | inl same ↦ here u on same goes
      | inr less ↦ before u on less goes
    ]
