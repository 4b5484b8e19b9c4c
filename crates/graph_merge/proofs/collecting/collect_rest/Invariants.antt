use Rattle.std.proofs.Common.{length}
use Rattle.graph_merge.specs.Collecting.{HasFront}
use Rattle.graph_merge.proofs.collecting.collect_rest.Given as goal

-- the blocks of so many files are held, and the rest is left
abbrev pub invariant-loop-rest : goal.invariant-loop-rest
invariant-loop-rest l = HasFront l.count l.collected l.bytes l.rest

abbrev pub decreases-loop-rest : goal.decreases-loop-rest
decreases-loop-rest l = length l.rest
