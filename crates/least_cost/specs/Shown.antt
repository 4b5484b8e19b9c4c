-- What numbers at the contexts have to be so that they show a cost, by what the blocks of a graph list.
use Rattle.std.specs.Prelude.{◌≡◌, ℕ, ◌+◌, ◌-◌, ◌≤◌, List, [], length, map, Option, Some, None, take, drop, slice_get}
use Rattle.std.specs.Prelude.{Contains, IsTrue}
use Rattle.road_base.specs.declared.ids.NodeId.{NodeId}
use Rattle.ordered_lists.specs.Orders.{rises}
use Rattle.road_model.specs.declared.lists.Place.{Place}
use Rattle.road_model.specs.declared.lists.TurnArc.{TurnArc}
use Rattle.context_search.specs.Ends.{BeginsBy, StopsBy}
use Rattle.context_search.specs.Marks.{At, key_of, key_cmp, names_behind}
use Rattle.context_search.specs.Visits.{HasTargets}
use Rattle.least_cost.specs.Costs.{plus}
use Rattle.least_cost.specs.PlaceCosts.{places_cost}
use Rattle.least_cost.specs.Certified.{AtMost}

abbrev pub number_in : Option (Option ℕ) → Option ℕ
number_in None = None
number_in (Some v) = v

-- the number that the list gives to the context at the place
abbrev pub number_at : List (Option ℕ) → ℕ → Option ℕ
number_at list n = number_in (slice_get list n)

-- C is at most the number and what it costs up to a step that ends at b, on a piece with these places
abbrev pub HoldsAtEnds : NodeId → Option ℕ → Option ℕ → List Place → Type 0
HoldsAtEnds b C number places = (j : ℕ) → StopsBy places j b
    → AtMost C (plus number (Some (places_cost (take (j + 2) places))))

-- On a piece with these places: the number is at most what it costs from a step that begins at a to the end, and C at
-- most what it costs from there up to one that ends at b.
pub record HoldsAtStarts (a b : NodeId) (C number : Option ℕ) (places : List Place) : Type 0 where
  pub leaves : (i : ℕ) → BeginsBy places i a → AtMost number (Some (places_cost (drop i places)))
  pub within : (i j : ℕ) → BeginsBy places i a → StopsBy places j b → i ≤ j
      → AtMost C (Some (places_cost (take (j + 2 - i) (drop i places))))

-- from a context with the one number over a piece with these places to one with the other
pub record HoldsOver (b : NodeId) (C from to : Option ℕ) (places : List Place) : Type 0 where
  pub goes_on : AtMost to (plus from (Some (places_cost places)))
  pub ends : HoldsAtEnds b C from places

-- the context at place n is the one to which the arc leads from x
pub record LeadsBy (L : List At) (x : At) (a : TurnArc) (n : ℕ) : Type 0 where
  pub to : At
  pub at : slice_get L n ≡ Some to
  pub named : key_of to ≡ (a.piece, names_behind x (a.length - 1))

-- over the arc from context x, which stands at place n
abbrev pub HoldsOnArc : List At → List (Option ℕ) → NodeId → Option ℕ → ℕ → At → TurnArc → Type 0
HoldsOnArc L list b C n x arc = (m : ℕ) (to : At) → slice_get L m ≡ Some to
    → key_of to ≡ (arc.piece, names_behind x (arc.length - 1))
    → HoldsOver b C (number_at list n) (number_at list m) to.piece.places

-- what has to hold of context x, which stands at place n
pub record HoldsAtContext (L : List At) (list : List (Option ℕ)) (a b : NodeId) (C : Option ℕ) (n : ℕ) (x : At)
    : Type 0 where
  pub starts : x.context.before ≡ [] → HoldsAtStarts a b C (number_at list n) x.piece.places
  pub arcs : (arc : TurnArc) → Contains x.context.arcs arc → HoldsOnArc L list b C n x arc

-- it holds of each context
abbrev pub HoldsEverywhere : List At → List (Option ℕ) → NodeId → NodeId → Option ℕ → Type 0
HoldsEverywhere L list a b C = (n : ℕ) (x : At) → slice_get L n ≡ Some x → HoldsAtContext L list a b C n x

abbrev pub piece_cost : At → ℕ
piece_cost x = places_cost x.piece.places

-- all contexts in order, with what arcs lead to among them, a number at each, and the costs of their last pieces
pub record AreNumbered (L : List At) (list : List (Option ℕ)) (costs : List ℕ) : Type 0 where
  pub up : IsTrue (rises key_cmp (map key_of L))
  pub targets : HasTargets L
  pub count : length list ≡ length L
  pub sums : costs ≡ map piece_cost L
