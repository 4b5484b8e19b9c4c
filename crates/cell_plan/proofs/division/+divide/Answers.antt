use Rattle.std.proofs.Common.{◌∙◌, ap, subst, refl}
use Rattle.cell_plan.specs.declared.intervals.Rect.{Rect}
use Rattle.cell_plan.specs.declared.cells.PlannedCell.{PlannedCell}
use Rattle.cell_plan.specs.Grids.{in_squares, is_near}
use Rattle.cell_plan.specs.Sums.{tallied}
use Rattle.cell_plan.specs.Dividing.{KeepsNear}
use Rattle.cell_plan.proofs.CoveredParts.{covers_more, covers_four, a_within, b_within, c_within, d_within}
use Rattle.cell_plan.proofs.PlannedCells.{area_is, far_part, is_grown, grown_more, held_part, is_counted, counted_more}
use Rattle.cell_plan.proofs.division.+divide.Goals as goal

pub returns-then-is_final-clause-cover : goal.returns-then-is_final-clause-cover
returns-then-is_final-clause-cover t c = λ part covers separate.
    let cell = c.in-Some.cell.units in
    let added : PlannedCell = record {
      cell = c.area.result;
      grown = c.area-then-is_final.result;
      count =
          c.in_ok-count.count;
    } in
    covers_more part (in_squares c.args.job.grid.side c.args.square) c.args.cells.now.items c.push.new.self.items added
    c.in_ok-push.ensures.items covers
    (λ p. area_is cell c.area.result c.area.ensures p ∙ c.in-Some.ensures.same p) separate

pub returns-then-is_final-clause-grown : goal.returns-then-is_final-clause-grown
returns-then-is_final-clause-grown t c = λ known before.
    let margin = c.args.job.rule.margin in
    let added : PlannedCell = record {
      cell = c.area.result;
      grown = c.area-then-is_final.result;
      count =
          c.in_ok-count.count;
    } in
    let new = is_grown c.args.job.grid.side c.args.square c.args.within.units c.in-Some.cell.units
    c.grow-grown.result.units
    c.in-Some.ensures margin (λ p h far. c.grow-grown.ensures.far margin p c.growth.ensures h far) known added.cell
    added.grown c.area.ensures c.area-then-is_final.ensures in
    grown_more c.args.cells.now.items c.push.new.self.items added c.in_ok-push.ensures.items margin new before

pub returns-then-is_final-clause-counted : goal.returns-then-is_final-clause-counted
returns-then-is_final-clause-counted t c = λ places held before.
    let rule = c.args.job.rule in
    let side = c.args.job.grid.side in
    let square = c.args.square in
    let tallies = c.args.tallies.now in
    let added : PlannedCell = record {
      cell = c.area.result;
      grown = c.area-then-is_final.result;
      count =
          c.in_ok-count.count;
    } in
    let near = c.in_ok-amount.ensures ∙ ap (λ r. tallied (is_near square r) tallies) c.touched-touched.ensures in
    let new = is_counted side c.args.job.grid.positive square c.args.within.units c.in-Some.cell.units
    c.grow-grown.result.units tallies c.grow-grown.ensures.within places held rule added c.in-Some.ensures
    c.area.ensures c.area-then-is_final.ensures c.in_ok-count.ensures c.in_ok-amount.amount.places near
    (c.if-is_final.ensures.small refl) in
    counted_more c.args.cells.now.items c.push.new.self.items added c.in_ok-push.ensures.items rule side places new
    before

pub returns-clause-cover : goal.returns-clause-cover
returns-clause-cover t c = λ part covers separate.
    let parts = c.quadrants-parts.result in
    covers_four c.args.job.grid.side c.args.square parts.south_west parts.north_west parts.south_east parts.north_east
    c.quadrants-parts.ensures.are part c.args.cells.now.items c.divide.new.cells.items c.divide-2.new.cells.items
    c.divide-3.new.cells.items c.divide-4.new.cells.items covers separate c.in_ok-divide.ensures.cover
    c.in_ok-divide-2.ensures.cover c.in_ok-divide-3.ensures.cover c.in_ok-divide-4.ensures.cover

pub returns-clause-grown : goal.returns-clause-grown
returns-clause-grown t c = λ known before.
    let margin = c.args.job.rule.margin in
    let side = c.args.job.grid.side in
    let square = c.args.square in
    let parts = c.quadrants-parts.result in
    let are = c.quadrants-parts.ensures.are in
    let far = far_part side square c.args.within.units c.in-Some.cell.units c.grow-grown.result.units
    c.in-Some.ensures margin
    (λ p h far. c.grow-grown.ensures.far margin p c.growth.ensures h far) known in
    let first = c.in_ok-divide.ensures.grown (far parts.south_west
    (a_within side square parts.south_west parts.north_west parts.south_east parts.north_east are)) before in
    let second = c.in_ok-divide-2.ensures.grown (far parts.north_west
    (b_within side square parts.south_west parts.north_west parts.south_east parts.north_east are)) first in
    let third = c.in_ok-divide-3.ensures.grown (far parts.south_east
    (c_within side square parts.south_west parts.north_west parts.south_east parts.north_east are)) second in
    c.in_ok-divide-4.ensures.grown (far parts.north_east
    (d_within side square parts.south_west parts.north_west parts.south_east parts.north_east are)) third

pub returns-clause-counted : goal.returns-clause-counted
returns-clause-counted t c = λ places known before.
    let side = c.args.job.grid.side in
    let square = c.args.square in
    let tallies = c.args.tallies.now in
    let grown = c.grow-grown.result.units in
    let near = c.chosen-near.result.now in
    let parts = c.quadrants-parts.result in
    let are = c.quadrants-parts.ensures.are in
    let kept = subst (λ r. KeepsNear square r tallies near) c.touched-touched.ensures
    (c.chosen-near.ensures square c.touched-touched.result c.in_ok-thinned.ensures) in
    let held = λ (part : Rect). held_part side c.args.job.grid.positive square c.args.within.units
    c.in-Some.cell.units grown
    tallies c.grow-grown.ensures.within places known part near kept in
    let first = c.in_ok-divide.ensures.counted places (held parts.south_west
    (a_within side square parts.south_west parts.north_west parts.south_east parts.north_east are)) before in
    let second = c.in_ok-divide-2.ensures.counted places (held parts.north_west
    (b_within side square parts.south_west parts.north_west parts.south_east parts.north_east are)) first in
    let third = c.in_ok-divide-3.ensures.counted places (held parts.south_east
    (c_within side square parts.south_west parts.north_west parts.south_east parts.north_east are)) second in
    c.in_ok-divide-4.ensures.counted places (held parts.north_east
    (d_within side square parts.south_west parts.north_west parts.south_east parts.north_east are)) third
