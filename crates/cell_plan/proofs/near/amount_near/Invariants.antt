use Rattle.std.proofs.Common.{◌≡◌, take}
use Rattle.cell_plan.specs.Grids.{is_near}
use Rattle.cell_plan.specs.Sums.{tallied}
use Rattle.cell_plan.proofs.near.amount_near.Given as goal

abbrev pub invariant-loop-tally : goal.invariant-loop-tally
invariant-loop-tally l = l.near.places ≡ tallied (is_near l.square l.touched) (take l.tally-index l.tallies)
