use Rattle.std.proofs.Common.{◌≡◌, length}
use Rattle.way_lines.specs.Left.{line_behind}
use Rattle.way_lines.proofs.line_nodes.next_node.Given as goal

-- what was dropped were repeats
abbrev pub invariant-loop-rest : goal.invariant-loop-rest
invariant-loop-rest l = line_behind l.before l.refs ≡ line_behind l.before l.rest

abbrev pub decreases-loop-rest : goal.decreases-loop-rest
decreases-loop-rest l = length l.rest
