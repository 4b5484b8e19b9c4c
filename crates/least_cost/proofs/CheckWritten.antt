-- The steps of a piece, where they begin and end and what they cost, by the places that are written of it.
use Rattle.std.proofs.Common.{◌≡◌, ℕ, ◌+◌, ◌-◌, ◌<◌, ◌≤◌, List, length, Some, take, drop, arith}
use Rattle.std.proofs.lemmas.Option.{slice_get_within}
use Rattle.road_base.specs.declared.ids.NodeId.{NodeId}
use Rattle.road_base.specs.declared.ids.WayId.{WayId}
use Rattle.road_base.specs.Objects.{Objects}
use Rattle.road_model.specs.declared.lists.Place.{Place}
use Rattle.road_model.specs.declared.lists.Piece.{Piece}
use Rattle.road_model.specs.Rules.{Rules}
use Rattle.road_model.specs.Pieces.{Span, spell}
use Rattle.road_model.specs.Blocks.{IsPieceEntry}
use Rattle.context_search.specs.Searching.{BeginsAt, StopsAt, within_piece}
use Rattle.context_search.specs.Ends.{BeginsBy, StopsBy}
use Rattle.context_search.proofs.SearchEnds.{begins_at, begins_by, stops_at, stops_by}
use Rattle.least_cost.specs.Costs.{cost_of}
use Rattle.least_cost.specs.PlaceCosts.{places_cost}
use Rattle.least_cost.proofs.CostPlaces.{steps_count, whole_cost, cost_from, cost_up_to, cost_within}

pub record IsWritten (M : Objects) (p : Span) (places : List Place) : Type 0 where
  pub begins_by : (i : ℕ) (v : NodeId) → BeginsAt M p i v → BeginsBy places i v
  pub begins_at : (i : ℕ) (v : NodeId) → BeginsBy places i v → BeginsAt M p i v
  pub stops_by : (j : ℕ) (v : NodeId) → StopsAt M p j v → StopsBy places j v
  pub stops_at : (j : ℕ) (v : NodeId) → StopsBy places j v → StopsAt M p j v
  pub whole : cost_of M (spell p) ≡ Some (places_cost places)
  pub from : (i : ℕ) (v : NodeId) → BeginsBy places i v
      → cost_of M (drop i (spell p)) ≡ Some (places_cost (drop i places))
  pub up_to : (j : ℕ) (v : NodeId) → StopsBy places j v
      → cost_of M (take (j + 1) (spell p)) ≡ Some (places_cost (take (j + 2) places))
  pub within : (i j : ℕ) (v : NodeId) → i ≤ j → StopsBy places j v
      → cost_of M (within_piece p i j) ≡ Some (places_cost (take (j + 2 - i) (drop i places)))

module _ (M : Objects) (P : Rules) (w : WayId) (e : Piece) (l : IsPieceEntry M P w e) where
  stops_within : (j : ℕ) (v : NodeId) → StopsBy e.places j v → j < length (spell l.piece)
  stops_within j v s =
      let c = steps_count M P w e l in
      let h = slice_get_within e.places (j + 1) s.place s.at in
      omega arith

  pub is_written : IsWritten M l.piece e.places
  is_written = record {
    begins_by = begins_by M P w e l;
    begins_at = begins_at M P w e l;
    stops_by = stops_by M P w e l;
    stops_at = stops_at M P w e l;
    whole = whole_cost M P w e l;
    from = λ i v b. cost_from M P w e l i (let c = steps_count M P w e l in let h = b.within in omega arith);
    up_to = λ j v s. cost_up_to M P w e l j (stops_within j v s);
    within = λ i j v h s. cost_within M P w e l i j h (stops_within j v s);
  }
