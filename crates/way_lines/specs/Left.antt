-- What is left of a way's line.
use Rattle.std.specs.Prelude.{List, Option, Some, None, Bool, false}
use Rattle.road_base.specs.declared.ids.NodeId.{NodeId}
use Rattle.road_model.specs.Lines.{same_node, changes, changes_from}
use Rattle.way_lines.specs.declared.line_nodes.LineNodes.{LineNodes}

-- the line that these references make behind a node, where there is one
abbrev pub line_behind : Option NodeId → List NodeId → List NodeId
line_behind None refs = changes refs
line_behind (Some x) refs = changes_from x refs

-- the nodes that are still to come
abbrev pub nodes_left : LineNodes → List NodeId
nodes_left nodes = line_behind nodes.before nodes.rest.now

-- the node is the one before, where there is one
abbrev pub repeats : Option NodeId → NodeId → Bool
repeats None y = false
repeats (Some x) y = same_node x y
