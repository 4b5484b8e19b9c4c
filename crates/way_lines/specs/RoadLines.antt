-- The line of a road with what is to be known of its nodes, and the directions in which ways are open.
use Rattle.std.specs.Prelude.{◌≡◌, ◌&&◌, not, Bool, [], map, Option, None, Some, IsTrue, IsFalse}
use Rattle.std.specs.List.{All}
use Rattle.road_base.specs.declared.ids.NodeId.{NodeId}
use Rattle.road_base.specs.declared.ids.Dir.TheVariants.{Forward, Backward}
use Rattle.road_base.specs.declared.location.Location.{Location}
use Rattle.road_base.specs.declared.objects.Node.{Node}
use Rattle.road_base.specs.Objects.{Objects, node_of}
use Rattle.road_model.specs.Rules.{Rules}
use Rattle.road_model.specs.Lines.{line_of}
use Rattle.road_model.specs.Driving.{is_open, is_road, located, shut, turning_place}
use Rattle.way_lines.specs.declared.roads.Road.{Road}
use Rattle.way_lines.specs.declared.roads.Roads.{Roads}
use Rattle.way_lines.specs.declared.road_line.LineNode.{LineNode}
use Rattle.way_lines.specs.declared.road_line.RoadLine.{RoadLine}

-- the way is open in these directions
pub record IsRoad (M : Objects) (P : Rules) (r : Road) : Type 0 where
  pub forward : r.forward ≡ is_open M P r.way Forward
  pub backward : r.backward ≡ is_open M P r.way Backward

-- each way is open in the directions that are told
abbrev pub AreRoads : Objects → Rules → Roads → Type 0
AreRoads M P r = All (IsRoad M P) r.roads.items

abbrev pub location_in : Option Node → Option Location
location_in None = None
location_in (Some body) = body.location

-- where the node lies, if it is visible with a location
abbrev pub location_of : Objects → NodeId → Option Location
location_of M v = location_in (node_of M v)

-- the node is located, and nothing there stops or turns who drives on
abbrev pub goes_through : Objects → Rules → NodeId → Bool
goes_through M P v = located M (Some v) && (not (shut M P v) && not (turning_place M P v))

-- what is to be known of the node
abbrev pub line_node : Objects → Rules → NodeId → LineNode
line_node M P v = record { node = v; location = location_of M v; goes_through = goes_through M P v }

-- the directions of a way, and if it is a road, all nodes of its line; else none
pub record IsRoadLine (M : Objects) (P : Rules) (l : RoadLine) : Type 0 where
  pub directions : IsRoad M P l.road
  pub line : IsTrue (is_road M P l.road.way) → l.nodes.items ≡ map (line_node M P) (line_of M l.road.way)
  pub none : IsFalse (is_road M P l.road.way) → l.nodes.items ≡ []
