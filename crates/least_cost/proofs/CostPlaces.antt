-- The cost of a piece's steps, by the places that are written of it.
use Rattle.std.proofs.Common.{◌≡◌, ℕ, zero, suc, ◌+◌, ◌-◌, ◌<◌, ◌≤◌, List, [], ◌∷◌, length, Some}
use Rattle.std.proofs.Common.{slice_get, take, drop, refl, sym, ap, ◌∙◌, arith}
use Rattle.std.proofs.lemmas.List.{take_all, length-take, length-drop}
use Rattle.std.proofs.lemmas.Option.{slice_get_within}
use Rattle.road_base.specs.declared.ids.WayId.{WayId}
use Rattle.road_base.specs.declared.ids.Step.{Step}
use Rattle.road_base.specs.Objects.{Objects}
use Rattle.ordered_lists.proofs.ListPlaces.{one_stands}
use Rattle.road_model.specs.declared.lists.Place.{Place}
use Rattle.road_model.specs.declared.lists.Piece.{Piece}
use Rattle.road_model.specs.Rules.{Rules}
use Rattle.road_model.specs.Lines.{tail_of, head_of}
use Rattle.road_model.specs.Pieces.{spell}
use Rattle.road_model.specs.Blocks.{IsPieceEntry}
use Rattle.road_model.proofs.FilePlaces.{length-steps}
use Rattle.context_search.specs.Searching.{within_piece}
use Rattle.context_search.proofs.SearchEnds.{begins_at, stops_at}
use Rattle.least_cost.specs.Costs.{plus, cost_of, step_cost_of, cost_between, location_of, location_in, cost_by}
use Rattle.least_cost.specs.PlaceCosts.{places_cost}

-- each step leads from its place to the next one
pub record LeadAlong (M : Objects) (steps : List Step) (places : List Place) : Type 0 where
  pub count : length places ≡ length steps + 1
  pub each : (k : ℕ) (s : Step) (x y : Place) → slice_get steps k ≡ Some s → slice_get places k ≡ Some x
      → slice_get places (k + 1) ≡ Some y → step_cost_of M s ≡ Some (cost_between x.location y.location)

module _ {X : Type 0} where
  pub taken_at : (n : ℕ) (xs : List X) (k : ℕ) (x : X) → slice_get (take n xs) k ≡ Some x → slice_get xs k ≡ Some x
  taken_at zero xs k x e = cc
  taken_at (suc n) [] k x e = e
  taken_at (suc n) (y ∷ ys) zero x e = e
  taken_at (suc n) (y ∷ ys) (suc k) x e = taken_at n ys k x e

  pub dropped_at : (i : ℕ) (xs : List X) (k : ℕ) (x : X) → slice_get (drop i xs) k ≡ Some x
      → slice_get xs (i + k) ≡ Some x
  dropped_at zero xs k x e = ap (slice_get xs) (omega arith) ∙ e
  dropped_at (suc i) [] k x e = cc
  dropped_at (suc i) (y ∷ ys) k x e =
      let h : suc i + k ≡ suc (i + k) = omega arith in
      ap (slice_get (y ∷ ys)) h ∙ dropped_at i ys k x e

module _ (M : Objects) where
  -- a part of the steps
  pub part_along : (steps : List Step) (places : List Place) → LeadAlong M steps places → (i n : ℕ)
      → i + n ≤ length steps → LeadAlong M (take n (drop i steps)) (take (n + 1) (drop i places))
  part_along steps places l i n h = record {
    count =
        let c = l.count in
        let a = length-take n (drop i steps) in
        let b = length-drop i steps in
        let d = length-take (n + 1) (drop i places) in
        let e = length-drop i places in
        omega arith;
    each = λ k s x y at_s at_x at_y.
        let next : i + (k + 1) ≡ i + k + 1 = omega arith in
        l.each (i + k) s x y
        (dropped_at i steps k s (taken_at n (drop i steps) k s at_s))
        (dropped_at i places k x (taken_at (n + 1) (drop i places) k x at_x))
        (sym (ap (slice_get places) next)
        ∙ dropped_at i places (k + 1) y (taken_at (n + 1) (drop i places) (k + 1) y at_y));
  }

  rest_along : (s : Step) (steps : List Step) (x : Place) (places : List Place)
      → LeadAlong M (s ∷ steps) (x ∷ places) → LeadAlong M steps places
  rest_along s steps x places l = record {
    count = let c = l.count in omega arith;
    each = λ k t y z at_t at_y at_z. l.each (suc k) t y z at_t at_y
        (ap (slice_get (x ∷ places)) (let e : suc k + 1 ≡ suc (k + 1) = omega arith in e) ∙ at_z);
  }

  -- the cost of the steps is that of passing the places
  pub along_cost : (steps : List Step) (places : List Place) → LeadAlong M steps places
      → cost_of M steps ≡ Some (places_cost places)
  along_cost steps [] l = absurd (let c = l.count in omega arith)
  along_cost [] (x ∷ []) l = refl
  along_cost [] (x ∷ (y ∷ places)) l = absurd (let c = l.count in omega arith)
  along_cost (s ∷ steps) (x ∷ []) l = absurd (let c = l.count in omega arith)
  along_cost (s ∷ steps) (x ∷ (y ∷ places)) l =
      let first = l.each 0 s x y refl refl refl in
      let rest = along_cost steps (y ∷ places) (rest_along s steps x (y ∷ places) l) in
      λ i. plus (first i) (rest i)

  module _ (P : Rules) (w : WayId) (e : Piece) (l : IsPieceEntry M P w e) where
    pub steps_count : length e.places ≡ length (spell l.piece) + 1
    steps_count =
        let p = l.piece in
        let c = l.count in
        let n = length-steps p.way p.index (p.end - p.index) p.dir in
        omega arith

    between : (k : ℕ) (s : Step) (x y : Place) → slice_get (spell l.piece) k ≡ Some s → slice_get e.places k ≡ Some x
        → slice_get e.places (k + 1) ≡ Some y → step_cost_of M s ≡ Some (cost_between x.location y.location)
    unfolding step_cost_of
    between k s x y at_s at_x at_y =
        let c = steps_count in
        let h = slice_get_within (spell l.piece) k s at_s in
        let b = begins_at M P w e l k x.node (record { place = x; at = at_x; is = refl; within = omega arith }) in
        let d = stops_at M P w e l k y.node (record { place = y; at = at_y; is = refl }) in
        let from : tail_of M s ≡ Some x.node
        = ap (tail_of M) (one_stands (spell l.piece) k s b.step at_s b.at) ∙ b.tail in
        let to : head_of M s ≡ Some y.node
        = ap (head_of M) (one_stands (spell l.piece) k s d.step at_s d.at) ∙ d.head in
        let p = l.places k x at_x in
        let q = l.places (k + 1) y at_y in
        let from_at : location_of M (tail_of M s) ≡ Some x.location
        = ap (location_of M) from ∙ ap location_in p.visible ∙ p.location in
        let to_at : location_of M (head_of M s) ≡ Some y.location
        = ap (location_of M) to ∙ ap location_in q.visible ∙ q.location in
        λ i. cost_by (from_at i) (to_at i)

    pub piece_along : LeadAlong M (spell l.piece) e.places
    piece_along = record { count = steps_count; each = between }

    -- the whole piece
    pub whole_cost : cost_of M (spell l.piece) ≡ Some (places_cost e.places)
    whole_cost = along_cost (spell l.piece) e.places piece_along

    -- from step i on
    pub cost_from : (i : ℕ) → i < length (spell l.piece)
        → cost_of M (drop i (spell l.piece)) ≡ Some (places_cost (drop i e.places))
    cost_from i h =
        let n = length (spell l.piece) - i in
        let c = steps_count in
        let a = part_along (spell l.piece) e.places piece_along i n (omega arith) in
        let s : take n (drop i (spell l.piece)) ≡ drop i (spell l.piece)
        = take_all n (drop i (spell l.piece)) (let d = length-drop i (spell l.piece) in omega arith) in
        let t : take (n + 1) (drop i e.places) ≡ drop i e.places
        = take_all (n + 1) (drop i e.places) (let d = length-drop i e.places in omega arith) in
        ap (cost_of M) (sym s) ∙ along_cost (take n (drop i (spell l.piece))) (take (n + 1) (drop i e.places)) a
        ∙ ap (λ v. Some (places_cost v)) t

    -- from step i up to step j
    pub cost_within : (i j : ℕ) → i ≤ j → j < length (spell l.piece)
        → cost_of M (within_piece l.piece i j) ≡ Some (places_cost (take (j + 2 - i) (drop i e.places)))
    cost_within i j h g =
        let a = part_along (spell l.piece) e.places piece_along i (j + 1 - i) (omega arith) in
        let same : j + 1 - i + 1 ≡ j + 2 - i = omega arith in
        along_cost (within_piece l.piece i j) (take (j + 1 - i + 1) (drop i e.places)) a
        ∙ ap (λ n. Some (places_cost (take n (drop i e.places)))) same

    -- up to step j
    pub cost_up_to : (j : ℕ) → j < length (spell l.piece)
        → cost_of M (take (j + 1) (spell l.piece)) ≡ Some (places_cost (take (j + 2) e.places))
    cost_up_to j g =
        let a : j + 1 ≡ j + 1 - 0 = omega arith in
        let b : j + 2 - 0 ≡ j + 2 = omega arith in
        ap (λ n. cost_of M (take n (spell l.piece))) a ∙ cost_within 0 j (omega arith) g
        ∙ ap (λ n. Some (places_cost (take n e.places))) b
