-- Where the pieces of a way start, by its line.
use Rattle.std.specs.Prelude.{ℕ, ◌+◌, ◌-◌, ◌<◌, List, slice_index_or, pos, None, false}
use Rattle.road_base.specs.declared.ids.NodeId.{NodeId}
use Rattle.road_base.specs.declared.ids.Dir.{Dir}
use Rattle.road_base.specs.declared.ids.Dir.TheVariants.{Forward, Backward}
use Rattle.way_pieces.specs.declared.spans.PieceSpan.{PieceSpan}
use Rattle.way_pieces.specs.declared.departures.Departure.{Departure}
use Rattle.way_pieces.specs.declared.at_nodes.AtNode.{AtNode}
use Rattle.way_lines.specs.declared.road_line.LineNode.{LineNode}

-- the span ascends and lies on a line of n nodes
abbrev pub IsWithin : ℕ → PieceSpan → Type 0
IsWithin n s = (s.name.index < s.end) × (s.end < n)

-- what is read behind the end of a list
abbrev pub no_node : LineNode
no_node = record { node = record { 0 = pos 0 }; location = None; goes_through = false }

-- the node at the position of a list that reaches so far
abbrev pub node_in : List LineNode → ℕ → NodeId
node_in nodes i = (slice_index_or nodes i no_node).node

-- the start of the piece that begins with the step between these positions of the line
abbrev pub start_by : List LineNode → PieceSpan → ℕ → ℕ → ℕ → AtNode Departure
start_by nodes s tail index head = record {
  node = node_in nodes tail;
  item = record {
    piece = s.name;
    first = record { way = s.name.way; index = index; dir = s.name.dir };
    toward = node_in nodes head;
  };
}

abbrev pub start_toward : List LineNode → PieceSpan → Dir → AtNode Departure
start_toward nodes s Forward = start_by nodes s s.name.index s.name.index (s.name.index + 1)
start_toward nodes s Backward = start_by nodes s s.end (s.end - 1) (s.end - 1)

-- the start of the piece
abbrev pub start_on : List LineNode → PieceSpan → AtNode Departure
start_on nodes s = start_toward nodes s s.name.dir
