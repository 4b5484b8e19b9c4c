use Rattle.std.proofs.Common.{take}
use Rattle.junctions.specs.Repeats.{AreMarks, nodes_of}
use Rattle.junctions.proofs.repeats.marks_of.Given as goal

-- the nodes so far are marked
abbrev pub invariant-loop-at : goal.invariant-loop-at
invariant-loop-at l = AreMarks (nodes_of (take l.at-index l.line)) l.marks
