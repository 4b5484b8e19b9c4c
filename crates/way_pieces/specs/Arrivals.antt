-- The arrivals over one way at a node.
use Rattle.std.specs.Prelude.{◌≡◌}
use Rattle.road_base.specs.declared.ids.NodeId.{NodeId}
use Rattle.road_base.specs.declared.ids.WayId.{WayId}
use Rattle.road_base.specs.Objects.{Objects}
use Rattle.road_model.specs.declared.lists.PieceName.{PieceName}
use Rattle.road_model.specs.Rules.{Rules}
use Rattle.way_pieces.specs.declared.arrivals.Arrival.{Arrival}
use Rattle.way_pieces.specs.Names.{IsArrival}

-- the name of the piece that arrives
abbrev pub arriving : Arrival → PieceName
arriving a = a.span.name

-- an arrival at the node over the way
abbrev pub IsComingOver : Objects → Rules → NodeId → WayId → Arrival → Type 0
IsComingOver M P v w a = (a.span.name.way ≡ w) × IsArrival M P v a
