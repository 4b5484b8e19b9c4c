use Rattle.std.proofs.Common.{◌≡◌, ◌++◌}
use Rattle.road_model.specs.Lines.{changes}
use Rattle.way_lines.specs.Left.{nodes_left}
use Rattle.way_lines.proofs.line_nodes.nodes_of.Given as goal

-- the line is what was found and what is left
abbrev pub invariant-loop-node : goal.invariant-loop-node
invariant-loop-node l = l.found.items ++ nodes_left l.nodes ≡ changes l.way.refs
