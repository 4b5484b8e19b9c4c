use Rattle.std.proofs.Common.{◌<◌, length, slice_index_or, arith}
use Rattle.std.proofs.lemmas.List.{get_or_default}
use Rattle.std.proofs.lemmas.List.Edits.{map_over_more}
use Rattle.cell_plan.specs.declared.sums.Tally.{Tally}
use Rattle.cell_plan.proofs.MergedTallies.{halved}
use Rattle.cell_plan.proofs.merging.halve.Goals as goal

none : Tally
none = record { column = 0; row = 0; count = 0 }

pub loop-tally-preserved : goal.loop-tally-preserved
unfolding none
loop-tally-preserved c =
    let i = c.loop-tally.tally-index in
    let ys = c.loop-tally.tallies in
    let x = slice_index_or ys i none in
    let within : i < length ys = omega (arith, c.loop-tally-test.true, c.loop-tally.auto.tallies) in
    map_over_more halved c.args.tallies.now ys i x (omega (arith, c.loop-tally.auto.tallies)) c.loop-tally.invariant
    (get_or_default ys i none x within)
