use Rattle.std.proofs.Common.{take}
use Rattle.drive_judging.specs.DeadEnds.{AreUnknown}
use Rattle.drive_judging.proofs.dead_ends.unknown.Given as goal

-- the nodes so far are there
abbrev pub invariant-loop-node : goal.invariant-loop-node
invariant-loop-node l = AreUnknown (take l.node-index l.nodes) l.known
