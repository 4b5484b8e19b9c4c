use Rattle.std.proofs.Common.{◌<◌, ◌≤◌, ◌-◌, ◌*◌, ◌^◌, max}
use Rattle.cell_plan.proofs.grid.Grid.for_margin.Given as goal

abbrev pub invariant-loop-side : goal.invariant-loop-side
invariant-loop-side l = (0 < l.side) × (l.side * 8 ≤ max l.margin 2048)

-- the squares grow
abbrev pub decreases-loop-side : goal.decreases-loop-side
decreases-loop-side l = 2 ^ 32 - l.side
