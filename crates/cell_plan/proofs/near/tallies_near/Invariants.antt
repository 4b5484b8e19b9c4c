use Rattle.std.proofs.Common.{take}
use Rattle.cell_plan.specs.Dividing.{KeepsNear}
use Rattle.cell_plan.proofs.near.tallies_near.Given as goal

-- of the tallies so far, those near are kept
abbrev pub invariant-loop-tally : goal.invariant-loop-tally
invariant-loop-tally l = KeepsNear l.square l.touched (take l.tally-index l.tallies) l.near.items
