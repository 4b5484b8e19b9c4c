use Rattle.std.proofs.Common.{◌≡◌, ◌+◌, ◌≤◌, min, arith}
use Rattle.cell_plan.specs.declared.intervals.Rect.{Rect}
use Rattle.cell_plan.specs.Grids.{units_east, units_north}
use Rattle.cell_plan.proofs.IntervalNumbers.{rect_parts, rect_from}
use Rattle.cell_plan.proofs.GrownEdges.{low_edge, high_edge}
use Rattle.cell_plan.proofs.growth.grow.Goals as goal

pub returns-clause-far : goal.returns-clause-far
returns-clause-far c = λ margin p le inside far.
    let by = c.args.by in
    let to_sides = c.to_the_sides.result in
    let x = units_east p in
    let y = units_north p in
    let cell = c.args.cell.units in
    let around = c.args.within.units in
    let columns = c.grown-columns.result in
    let rows = c.grown-rows.result in
    let i = rect_parts cell x y inside in
    let w = rect_parts around x y far.inside in
    let wide : margin ≤ to_sides = omega (arith, c.to_the_sides.ensures) in
    let west = c.grown-columns.ensures.start in
    let east : columns.end ≡ min (cell.columns.end + to_sides) around.columns.end
    = c.grown-columns.ensures.end (omega (arith, c.args.within.east)) in
    let south = c.grown-rows.ensures.start in
    let north : rows.end ≡ min (cell.rows.end + by) around.rows.end
    = c.grown-rows.ensures.end (omega (arith, c.args.within.north.1)) in
    let grown : Rect = record { columns = columns; rows = rows } in
    record {
      inside = rect_from grown x y (omega (arith, west, i.column_in.from, w.column_in.from))
          (omega (arith, east, i.column_in.before, w.column_in.before))
          (omega (arith, south, i.row_in.from, w.row_in.from))
          (omega (arith, north, i.row_in.before, w.row_in.before));
      west = low_edge cell.columns.start to_sides around.columns.start 0 columns.start margin x west wide
          i.column_in.from
          far.west;
      east = high_edge cell.columns.end to_sides around.columns.end 3600000001 columns.end margin x east wide
          i.column_in.before far.east;
      south = low_edge cell.rows.start by around.rows.start 900000000 rows.start margin y south le i.row_in.from
          far.south;
      north = high_edge cell.rows.end by around.rows.end 2700000001 rows.end margin y north le i.row_in.before
          far.north;
    }
