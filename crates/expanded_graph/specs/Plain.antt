-- Sources that are plain pieces.
use Rattle.std.specs.Prelude.{List, [], ◌∷◌, filter}
use Rattle.road_model.specs.declared.lists.PieceName.{PieceName}
use Rattle.road_model.specs.declared.lists.Context.{Context}
use Rattle.way_pieces.specs.declared.departures.Departure.{Departure}
use Rattle.expanded_graph.specs.declared.arrivals.Incoming.{Incoming}
use Rattle.expanded_graph.specs.declared.intersections.Intersection.{Intersection}
use Rattle.expanded_graph.specs.declared.sources.Leading.{Leading}
use Rattle.expanded_graph.specs.Arrivals.{arrival_of}
use Rattle.expanded_graph.specs.Intersections.{may_follow}

-- those that may go on by the departure
abbrev pub going_on : Intersection → Departure → List Incoming → List Incoming
going_on i d cs = filter (λ c. may_follow i c.from d) cs

-- the names of the context of the piece alone
abbrev pub named_alone : Incoming → List PieceName
named_alone c = (arrival_of c).span.name ∷ []

-- an arc to a piece alone, from the context of these names
abbrev pub to_piece : List PieceName → Leading
to_piece source = record { before = []; source = source }

-- the contexts, of which the first has these sources
abbrev pub first_sourced : List (List PieceName) → List Context → List Context
first_sourced sources [] = []
first_sourced sources (c ∷ cs) = record { before = c.before; arcs = c.arcs; sources = sources } ∷ cs
