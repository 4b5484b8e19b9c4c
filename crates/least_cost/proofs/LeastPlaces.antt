-- Where the nodes of a piece stand, and how far it is from them to a location.
use Rattle.std.proofs.Common.{◌≡◌, ◌⊎◌, inl, inr, ℕ, zero, suc, ◌+◌, ◌-◌, ◌<◌, ◌≤◌, List, [], ◌∷◌, ◌++◌, length, Option}
use Rattle.std.proofs.Common.{Some, None, slice_get, take, drop, refl, sym, ap, ◌∙◌, subst, arith, ℤ, ◌-ℤ◌, IsTrue}
use Rattle.std.specs.Prelude.{unsigned_abs}
use Rattle.std.proofs.lemmas.Bool.{cases_lt}
use Rattle.std.proofs.lemmas.Int.{ints}
use Rattle.std.proofs.lemmas.Nat.{mul-le}
use Rattle.std.proofs.lemmas.Option.{slice_get_within}
use Rattle.ordered_lists.proofs.ListPlaces.{some_at, one_stands}
use Rattle.road_base.specs.declared.ids.NodeId.{NodeId}
use Rattle.road_base.specs.declared.ids.WayId.{WayId}
use Rattle.road_base.specs.declared.ids.Dir.{Dir}
use Rattle.road_base.specs.declared.ids.Dir.TheVariants.{Forward, Backward}
use Rattle.road_base.specs.declared.location.Location.{Location}
use Rattle.road_base.specs.Objects.{Objects}
use Rattle.road_model.specs.declared.lists.Place.{Place}
use Rattle.road_model.specs.declared.lists.Piece.{Piece}
use Rattle.road_model.specs.Rules.{Rules}
use Rattle.road_model.specs.Lines.{node_at}
use Rattle.road_model.specs.Pieces.{Span, IsPiece, IsPlain}
use Rattle.road_model.specs.Blocks.{IsPieceEntry, place_position}
use Rattle.context_search.specs.Ends.{BeginsBy, StopsBy}
use Rattle.least_cost.specs.Costs.{cost_between, location_of, location_in, root, straight, narrowed, lon_difference}
use Rattle.least_cost.specs.Latitudes.{latitudes_from, latitudes_left}
use Rattle.least_cost.specs.PlaceCosts.{first_cost, places_cost}

-- ---- no node stands twice within a piece

module _ (M : Objects) (P : Rules) where
  inner_by : (w : WayId) (i j : ℕ) (d : Dir) (k : ℕ) → 0 < k → k < j - i
      → ((x : ℕ) → i < x → x < j → IsPlain M P w x)
      → IsPlain M P w (place_position (record { way = w; index = i; end = j; dir = d }) k)
  inner_by w i j Forward k a b f = f (i + k) (omega arith) (omega arith)
  inner_by w i j Backward k a b f = f (j - k) (omega arith) (omega arith)

  apart_by : (w : WayId) (i j : ℕ) (d : Dir) (k l : ℕ) → i < j → k ≤ j - i → l ≤ j - i
      → place_position (record { way = w; index = i; end = j; dir = d }) k
      ≡ place_position (record { way = w; index = i; end = j; dir = d }) l
      → k ≡ l
  apart_by w i j Forward k l h a b e = omega arith
  apart_by w i j Backward k l h a b e = omega arith

  -- a node that stands inside the piece stands there once
  once : (p : Span) → IsPiece M P p → (i j : ℕ) → i ≤ p.end - p.index → 0 < j → j < p.end - p.index → (v : NodeId)
      → node_at M p.way (place_position p i) ≡ Some v → node_at M p.way (place_position p j) ≡ Some v → i ≡ j
  once p is i j h a b v at_i at_j =
      let up = is.ascends in
      let plain = inner_by p.way p.index p.end p.dir j a b is.inner in
      let f : Some plain.node ≡ Some v = sym plain.is ∙ at_j in
      let same : plain.node ≡ v = cc in
      let here = plain.alone p.way (place_position p i) plain.road (at_i ∙ ap Some (sym same)) in
      apart_by p.way p.index p.end p.dir i j up h (omega arith) here.1

  module _ (w : WayId) (e : Piece) (l : IsPieceEntry M P w e) where
    node_there : (k : ℕ) (x : Place) (v : NodeId) → slice_get e.places k ≡ Some x → x.node ≡ v
        → node_at M l.piece.way (place_position l.piece k) ≡ Some v
    node_there k x v at is = (l.places k x at).node ∙ ap Some is

    not_begun : (i j : ℕ) (v : NodeId) → BeginsBy e.places i v → BeginsBy e.places j v → i < j → ⊥
    not_begun i j v a b h =
        let n = l.count in
        let k = b.within in
        let same = once l.piece l.is i j (omega arith) (omega arith) (omega arith) v
        (node_there i a.place v a.at a.is) (node_there j b.place v b.at b.is) in
        omega arith

    pub begins_once : (i j : ℕ) (v : NodeId) → BeginsBy e.places i v → BeginsBy e.places j v → i ≡ j
    begins_once i j v a b =
        let h = not_begun i j v a b in
        let k = not_begun j i v b a in
        elim (cases_lt i j) [
          | inl less ↦ absurd (h less)
          | inr more ↦ elim (cases_lt j i) [ inl less ↦ absurd (k less) | inr other ↦ omega arith ]
        ]

    not_stopped : (i j : ℕ) (v : NodeId) → StopsBy e.places i v → StopsBy e.places j v → i < j → ⊥
    not_stopped i j v a b h =
        let n = l.count in
        let k = slice_get_within e.places (j + 1) b.place b.at in
        let same = once l.piece l.is (j + 1) (i + 1) (omega arith) (omega arith) (omega arith) v
        (node_there (j + 1) b.place v b.at b.is) (node_there (i + 1) a.place v a.at a.is) in
        omega arith

    pub stops_once : (i j : ℕ) (v : NodeId) → StopsBy e.places i v → StopsBy e.places j v → i ≡ j
    stops_once i j v a b =
        let h = not_stopped i j v a b in
        let k = not_stopped j i v b a in
        elim (cases_lt i j) [
          | inl less ↦ absurd (h less)
          | inr more ↦ elim (cases_lt j i) [ inl less ↦ absurd (k less) | inr other ↦ omega arith ]
        ]

    -- where a place of the piece lies
    pub lies : (k : ℕ) (x : Place) → slice_get e.places k ≡ Some x → location_of M (Some x.node) ≡ Some x.location
    lies k x at = let p = l.places k x at in ap location_in p.visible ∙ p.location

-- ---- a step costs more than its difference of latitudes

abbrev gap : ℤ → ℤ → ℕ
gap a b = unsigned_abs (a -ℤ b)

pub gap_same : (a : ℤ) → gap a a ≡ 0
gap_same a = omega (arith, ints)

pub gap_over : (a b c : ℤ) → gap a c ≤ gap a b + gap b c
gap_over a b c = omega (arith, ints)
