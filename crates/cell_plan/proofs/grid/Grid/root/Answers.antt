use Rattle.std.proofs.Common.{◌+◌, ◌/◌, arith}
use Rattle.cell_plan.specs.declared.intervals.Rect.{Rect}
use Rattle.cell_plan.specs.Grids.{units_east, units_north}
use Rattle.cell_plan.proofs.IntervalNumbers.{rect_from, div_mono}
use Rattle.cell_plan.proofs.WorldPlaces.{offsets}
use Rattle.cell_plan.proofs.grid.Grid.root.Goals as goal

pub returns : goal.returns
returns c = λ p.
    let side = c.args.self.side in
    let at = offsets p in
    let east = div_mono (units_east p) c.from.result side c.args.self.positive
    (omega (arith, c.from.ensures, at.east)) in
    let north = div_mono (units_north p) c.from.result side c.args.self.positive
    (omega (arith, c.from.ensures, at.north)) in
    let last = c.from.result / side + 1 in
    let all : Rect = record { columns = record { start = 0; end = last }; rows = record { start = 0; end = last } } in
    rect_from all (units_east p / side) (units_north p / side) (omega arith) (omega (arith, east)) (omega arith)
    (omega (arith, north))
