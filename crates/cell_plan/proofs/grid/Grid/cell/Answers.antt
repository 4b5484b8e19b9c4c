use Rattle.std.proofs.Common.{◌/◌, ◌&&◌, ◌∙◌, arith}
use Rattle.std.proofs.lemmas.Bool.{and_parts}
use Rattle.cell_plan.specs.Grids.{units_east, units_north, in_interval}
use Rattle.cell_plan.proofs.IntervalNumbers.{interval_parts}
use Rattle.cell_plan.proofs.WorldPlaces.{offsets}
use Rattle.cell_plan.proofs.grid.Grid.cell.Goals as goal
use Rattle.cell_plan.proofs.grid.Grid.cell.Goals.{then-len-eq0-via-then-len-eq0}
use Rattle.cell_plan.proofs.grid.Grid.cell.Goals.{then-len-eq0-via-else-len-eq0+then-len-eq0-2}

pub returns-then-len-eq0 : goal.returns-then-len-eq0
returns-then-len-eq0 c = λ p h.
    let at = offsets p in
    let side = c.args.self.side in
    let square = c.args.square in
    let parts = and_parts (in_interval square.columns (units_east p / side))
    (in_interval square.rows (units_north p / side)) h in
    let column = c.units-columns.ensures.exactly (units_east p) (omega arith) at.east in
    let row = c.units-rows.ensures.exactly (units_north p) at.south at.north in
    elim c.then-len-eq0.branch [
      | then-len-eq0-via-then-len-eq0 w ↦
          let i = interval_parts c.units-columns.result (units_east p) (column ∙ parts.0) in
          omega (arith, i.from, i.before, c.len.ensures, w.if-len-eq0.true)
      | then-len-eq0-via-else-len-eq0+then-len-eq0-2 w ↦
          let i = interval_parts c.units-rows.result (units_north p) (row ∙ parts.1) in
          omega (arith, i.from, i.before, w.len-else-len-eq0.ensures, w.if-len-eq0-2.true)
    ]

pub returns : goal.returns
returns c = record {
  same = λ p.
      let at = offsets p in
      let column = c.units-columns.ensures.exactly (units_east p) (omega arith) at.east in
      let row = c.units-rows.ensures.exactly (units_north p) at.south at.north in
      λ i. column i && row i;
  length = c.units-columns.ensures.length;
}
