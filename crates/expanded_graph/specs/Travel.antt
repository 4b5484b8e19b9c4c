-- The nodes of a line with where they lie, and those that a piece passes.
use Rattle.std.specs.Prelude.{◌+◌, ◌-◌, List, take, drop, reverse, Option}
use Rattle.std.specs.Option.{option_map}
use Rattle.road_base.specs.declared.ids.Dir.{Dir}
use Rattle.road_base.specs.declared.ids.Dir.TheVariants.{Forward, Backward}
use Rattle.road_model.specs.declared.lists.Place.{Place}
use Rattle.way_pieces.specs.declared.spans.PieceSpan.{PieceSpan}
use Rattle.way_lines.specs.declared.road_line.LineNode.{LineNode}

-- the node and where it lies, if it lies somewhere
abbrev pub place_of : LineNode → Option Place
place_of s = option_map (λ l. record { node = s.node; location = l }) s.location

-- what stands along a way, in order of travel
abbrev pub travelled : {A : Type 0} → Dir → List A → List A
travelled Forward xs = xs
travelled Backward xs = reverse xs

-- those of a way's nodes that the piece passes, in order of travel
abbrev pub nodes_on : PieceSpan → List LineNode → List LineNode
nodes_on s nodes = travelled s.name.dir (take (s.end - s.name.index + 1) (drop s.name.index nodes))
