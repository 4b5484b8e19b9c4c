use Rattle.std.proofs.Common.{◌≡◌, ◌++◌, map, take, drop}
use Rattle.cell_plan.proofs.MergedTallies.{halved}
use Rattle.cell_plan.proofs.merging.halve.Given as goal

abbrev pub invariant-loop-tally : goal.invariant-loop-tally
invariant-loop-tally l = l.tallies ≡ map halved (take l.tally-index l.initial.tallies) ++ drop l.tally-index
    l.initial.tallies
