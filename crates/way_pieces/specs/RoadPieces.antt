-- The pieces of a way, its line, and the departures and arrivals over it by their nodes.
use Rattle.std.specs.Prelude.{◌≡◌, ◌≤◌, ℕ, ⊤, List, Option, Some, IfSome, length, slice_get}
use Rattle.road_base.specs.declared.ids.WayId.{WayId}
use Rattle.road_base.specs.Objects.{Objects}
use Rattle.road_model.specs.Rules.{Rules}
use Rattle.road_model.specs.Blocks.{ListsPieces}
use Rattle.ordered_lists.specs.Orders.{Lists}
use Rattle.road_model.specs.Orders.{name_cmp}
use Rattle.way_lines.specs.declared.roads.Road.{Road}
use Rattle.way_lines.specs.declared.road_line.RoadLine.{RoadLine}
use Rattle.way_lines.specs.RoadLines.{AreRoads, IsRoad, IsRoadLine}
use Rattle.way_pieces.specs.declared.spans.PieceSpan.{PieceSpan}
use Rattle.way_pieces.specs.declared.arrivals.Arrival.{Arrival}
use Rattle.way_pieces.specs.declared.at_nodes.AtNode.{AtNode}
use Rattle.way_pieces.specs.declared.departures.Departure.{Departure}
use Rattle.way_pieces.specs.declared.met_ways.PieceSource.{PieceSource}
use Rattle.way_pieces.specs.declared.met_ways.PieceSource.TheVariants.{Own, Listed, Cut}
use Rattle.way_pieces.specs.declared.met_ways.MetWay.{MetWay}
use Rattle.way_pieces.specs.declared.road_pieces.WayPieces.{WayPieces}
use Rattle.way_pieces.specs.declared.road_pieces.CutRoad.{CutRoad}
use Rattle.way_pieces.specs.declared.road_pieces.RoadPieces.{RoadPieces}
use Rattle.way_pieces.specs.Names.{IsSpanOn}
use Rattle.way_pieces.specs.Arrivals.{arriving, IsComingOver}
use Rattle.way_pieces.specs.AtNodes.{AreByNode}
use Rattle.way_pieces.specs.Departures.{IsOver}

-- all pieces of the way, by position and forward before backward
abbrev pub AreSpans : Objects → Rules → WayId → List PieceSpan → Type 0
AreSpans M P w spans = Lists (λ s. s.name) name_cmp (IsSpanOn M P w) spans

-- the departures over the way by the node that they leave
abbrev pub AreStarts : Objects → Rules → WayId → List (AtNode Departure) → Type 0
AreStarts M P w starts = AreByNode (λ d. d.piece) (λ v. IsOver M P v w) starts

-- the arrivals over the way by the node where they end
abbrev pub AreStops : Objects → Rules → WayId → List (AtNode Arrival) → Type 0
AreStops M P w stops = AreByNode arriving (λ v. IsComingOver M P v w) stops

-- the pieces of the way, and where they start and end
pub record AreWayPieces (M : Objects) (P : Rules) (w : WayId) (t : WayPieces) : Type 0 where
  pub spans : AreSpans M P w t.spans.items
  pub starts : AreStarts M P w t.starts.items
  pub stops : AreStops M P w t.stops.items

-- where the pieces of the way are those that a block lists, it does list them
abbrev pub IsSource : Objects → Rules → WayId → PieceSource → Type 0
IsSource M P w Own = ⊤
IsSource M P w (Listed block) = ListsPieces M P w block.now
IsSource M P w Cut = ⊤

-- the directions of the way, and where its pieces come from
pub record IsMetWay (M : Objects) (P : Rules) (m : MetWay) : Type 0 where
  pub road : IsRoad M P m.road
  pub source : IsSource M P m.road.way m.source

-- the line of the way
pub record IsLineOf (M : Objects) (P : Rules) (w : WayId) (l : RoadLine) : Type 0 where
  pub of : l.road.way ≡ w
  pub line : IsRoadLine M P l
  pub short : length l.nodes.items ≤ 65535

-- the line of the way, where one is kept
abbrev pub IsKeptLineOf : Objects → Rules → WayId → Option RoadLine → Type 0
IsKeptLineOf M P w line = IfSome line (IsLineOf M P w)

-- the pieces of the way, where they start and end, and its line, where it is kept
pub record IsCutRoad (M : Objects) (P : Rules) (w : WayId) (c : CutRoad) : Type 0 where
  pub pieces : AreWayPieces M P w c.pieces
  pub line : IsKeptLineOf M P w c.line

-- the pieces of each road, where they start and end as far as that is kept, and its line where it is kept
pub record AreRoadPieces (M : Objects) (P : Rules) (p : RoadPieces) : Type 0 where
  pub roads : AreRoads M P p.roads
  pub span_count : length p.spans ≡ length p.roads.roads.items
  pub spans : (k : ℕ) (road : Road) (spans : List PieceSpan)
      → slice_get p.roads.roads.items k ≡ Some road
      → slice_get p.spans k ≡ Some spans
      → AreSpans M P road.way spans
  pub starts : (k : ℕ) (road : Road) (starts : List (AtNode Departure))
      → slice_get p.roads.roads.items k ≡ Some road
      → slice_get p.starts k ≡ Some starts
      → AreStarts M P road.way starts
  pub stops : (k : ℕ) (road : Road) (stops : List (AtNode Arrival))
      → slice_get p.roads.roads.items k ≡ Some road
      → slice_get p.stops k ≡ Some stops
      → AreStops M P road.way stops
  pub lines : (k : ℕ) (road : Road) (line : Option RoadLine)
      → slice_get p.roads.roads.items k ≡ Some road
      → slice_get p.lines.items k ≡ Some line
      → IsKeptLineOf M P road.way line
