use Rattle.std.proofs.Common.{◌≡◌, ◌++◌, map}
use Rattle.road_model.specs.Lines.{changes}
use Rattle.way_lines.specs.Left.{nodes_left}
use Rattle.way_lines.specs.RoadLines.{line_node}
use Rattle.way_lines.proofs.road_line.line_nodes_of.Given as goal

-- the line is what was looked up and what is left
abbrev pub invariant-loop-node : goal.invariant-loop-node
invariant-loop-node g l =
    let look = line_node (g.M.World.objects l.network.world.now) (g.P.Profile.rules l.network.profile) in
    l.nodes.items ++ map look (nodes_left l.left) ≡ map look (changes l.way.refs)
