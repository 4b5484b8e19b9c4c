-- Each key that is looked at is above the one before it, or ends the loop.
use Rattle.std.proofs.Common.{◌-◌, arith, sym, ◌∙◌}
use Rattle.road_base.proofs.Ascents.{goes_on_at, ends}
use Rattle.road_base.proofs.tags.Tags.are_ascending.Goals as goal

pub loop-at-preserved : goal.loop-at-preserved
loop-at-preserved c =
    c.loop-at.invariant
    ∙ goes_on_at c.args.list.now c.loop-at.at c.index-list-at.result c.index-list-at-in-loop-at.result
    c.as_str.result.now c.as_str-in-loop-at.result.now
    c.loop-at.auto.at c.loop-at-test.true c.as_str.ensures.bytes c.as_str-in-loop-at.ensures.bytes (sym c.if-ge.ensures)

pub returns : goal.returns
returns c = sym (c.loop-at.invariant ∙ ends c.args.list.now (c.loop-at.at - 1)
    (let h = c.loop-at-test.false in omega arith))
