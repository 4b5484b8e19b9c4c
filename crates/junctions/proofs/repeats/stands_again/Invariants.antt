use Rattle.std.proofs.Common.{◌≡◌, ◌+◌, cond}
use Rattle.road_model.specs.Lines.{changes}
use Rattle.way_lines.specs.Left.{nodes_left}
use Rattle.junctions.specs.Repeats.{times}
use Rattle.junctions.proofs.repeats.stands_again.Given as goal

-- the node stands as often as was found, and then as often as in what is left
abbrev pub invariant-loop-other : goal.invariant-loop-other
invariant-loop-other l = times l.node (changes l.way.refs) ≡ cond l.found 1 0 + times l.node (nodes_left l.nodes)
