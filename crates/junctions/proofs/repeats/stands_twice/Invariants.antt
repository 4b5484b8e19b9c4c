use Rattle.std.proofs.Common.{◌≡◌, ◌+◌, cond, drop}
use Rattle.junctions.specs.Repeats.{times, nodes_of}
use Rattle.junctions.proofs.repeats.stands_twice.Given as goal

-- the node stands as often as was found, and then as often as in what is left
abbrev pub invariant-loop-other : goal.invariant-loop-other
invariant-loop-other l =
    times l.node (nodes_of l.line) ≡ cond l.found 1 0 + times l.node (nodes_of (drop l.other-index l.line))
