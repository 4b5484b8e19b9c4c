use Rattle.std.proofs.Common.{◌≡◌, IsTrue, false, refl, sym, ap, ◌∙◌, rules}
use Rattle.std.specs.Ordering.{is_lt, is_le}
use Rattle.road_model.specs.Orders.{way_cmp}
use Rattle.road_model.proofs.TotalOrders.{way_cmp_total}
use Rattle.ordered_lists.proofs.Comparisons.{turned}
use Rattle.graph_merge.proofs.RisingBlocks.{more_rises, above_not_upto}
use Rattle.graph_merge.proofs.putting.first_not_above.Goals as goal

pub loop-at-preserved : goal.loop-at-preserved
loop-at-preserved c =
    let here = c.index-blocks-at.result in
    let before = c.index-blocks-at-in-loop-at.result in
    let not_upto : is_le (way_cmp here.way before.way) ≡ false = search rules in
    let above : IsTrue (is_lt (way_cmp before.way here.way)) =
    ap is_lt (turned way_cmp way_cmp_total here.way before.way (way_cmp here.way before.way) refl)
    ∙ above_not_upto (way_cmp here.way before.way) not_upto in
    more_rises c.args.blocks.now c.loop-at.at before here c.loop-at.auto.at c.loop-at-test.true c.loop-at.invariant
    (rw (sym c.index-blocks-at-in-loop-at.is, sym c.index-blocks-at.is) above)
