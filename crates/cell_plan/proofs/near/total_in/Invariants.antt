use Rattle.std.proofs.Common.{◌≡◌, take}
use Rattle.cell_plan.specs.Grids.{in_rect}
use Rattle.cell_plan.specs.Sums.{tallied}
use Rattle.cell_plan.proofs.near.total_in.Given as goal

abbrev pub invariant-loop-tally : goal.invariant-loop-tally
invariant-loop-tally l = l.sum ≡ tallied (in_rect l.squares) (take l.tally-index l.tallies)
