-- What is read of a piece as a block lists it.
use Rattle.std.specs.Prelude.{ℕ, ◌-◌, Bool, List, [], ◌∷◌, Option, None, Some}
use Rattle.road_base.specs.declared.ids.Dir.{Dir}
use Rattle.road_base.specs.declared.ids.Dir.TheVariants.{Forward, Backward}
use Rattle.road_model.specs.declared.lists.Place.{Place}
use Rattle.road_model.specs.declared.lists.Piece.{Piece}
use Rattle.road_model.specs.Orders.{same_dir}
use Rattle.way_pieces.specs.declared.spans.PieceSpan.{PieceSpan}
use Rattle.way_pieces.specs.declared.arrivals.Arrival.{Arrival}
use Rattle.way_pieces.specs.declared.at_nodes.AtNode.{AtNode}
use Rattle.way_pieces.specs.declared.departures.Departure.{Departure}

-- the piece goes in the direction
abbrev pub goes : Dir → Piece → Bool
goes d e = same_dir e.name.dir d

-- its name and its end
abbrev pub listed_span : Piece → PieceSpan
listed_span e = record { name = e.name; end = e.end }

-- the position of its first step, in this direction
abbrev pub first_index : PieceSpan → Dir → ℕ
first_index s Forward = s.name.index
first_index s Backward = s.end - 1

-- its start, where it passes these places in order of travel: it leaves the first one toward the second one
abbrev pub start_along : PieceSpan → List Place → Option (AtNode Departure)
start_along s [] = None
start_along s (from ∷ []) = None
start_along s (from ∷ to ∷ more) = Some (record {
  node = from.node;
  item = record {
    piece = s.name;
    first = record { way = s.name.way; index = first_index s s.name.dir; dir = s.name.dir };
    toward = to.node;
  };
})

abbrev pub listed_start : Piece → Option (AtNode Departure)
listed_start e = start_along (listed_span e) e.places

-- its end, where it passes these places in order of travel: it comes from the last but one to the last one
abbrev pub stop_along : PieceSpan → List Place → Option (AtNode Arrival)
stop_along s [] = None
stop_along s (from ∷ []) = None
stop_along s (from ∷ to ∷ []) = Some (record { node = to.node; item = record { span = s; from = from.node } })
stop_along s (first ∷ from ∷ to ∷ more) = stop_along s (from ∷ to ∷ more)

abbrev pub listed_stop : Piece → Option (AtNode Arrival)
listed_stop e = stop_along (listed_span e) e.places
