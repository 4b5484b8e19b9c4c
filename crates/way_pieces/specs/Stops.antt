-- Where the pieces of a way end, by its line.
use Rattle.std.specs.Prelude.{ℕ, ◌+◌, ◌-◌, List}
use Rattle.road_base.specs.declared.ids.Dir.{Dir}
use Rattle.road_base.specs.declared.ids.Dir.TheVariants.{Forward, Backward}
use Rattle.way_lines.specs.declared.road_line.LineNode.{LineNode}
use Rattle.way_pieces.specs.declared.arrivals.Arrival.{Arrival}
use Rattle.way_pieces.specs.declared.at_nodes.AtNode.{AtNode}
use Rattle.way_pieces.specs.declared.spans.PieceSpan.{PieceSpan}
use Rattle.way_pieces.specs.Starts.{node_in}

-- the positions of the line where the piece ends, and before that, in this direction
abbrev pub end_position : PieceSpan → Dir → ℕ
end_position s Forward = s.end
end_position s Backward = s.name.index

abbrev pub position_before : PieceSpan → Dir → ℕ
position_before s Forward = s.end - 1
position_before s Backward = s.name.index + 1

-- the end of the piece that ends with the step between these positions of the line
abbrev pub stop_by : List LineNode → PieceSpan → ℕ → ℕ → AtNode Arrival
stop_by nodes s tail head = record {
  node = node_in nodes head;
  item = record { span = s; from = node_in nodes tail };
}

-- the end of the piece
abbrev pub stop_on : List LineNode → PieceSpan → AtNode Arrival
stop_on nodes s = stop_by nodes s (position_before s s.name.dir) (end_position s s.name.dir)
