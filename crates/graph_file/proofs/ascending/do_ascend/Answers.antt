-- Each one that is looked at comes behind the one before it, or ends the loop.
use Rattle.std.proofs.Common.{◌-◌, arith, sym, ◌∙◌}
use Rattle.graph_file.proofs.Ascents.{goes_on_at, ends}
use Rattle.graph_file.proofs.ascending.do_ascend.Goals as goal

pub loop-at-preserved : goal.loop-at-preserved
loop-at-preserved g c =
    c.loop-at.invariant
    ∙ goes_on_at g.T.Ascending.order c.args.items.now c.loop-at.at c.index-items-at.result
    c.index-items-at-in-loop-at.result c.loop-at.auto.at c.loop-at-test.true
    (rw (sym c.index-items-at.is, sym c.index-items-at-in-loop-at.is)
    (sym c.is_below.ensures ∙ c.if-not-is_below.false))

pub returns : goal.returns
returns g c = sym (c.loop-at.invariant ∙ ends g.T.Ascending.order c.args.items.now (c.loop-at.at - 1)
    (let h = c.loop-at-test.false in omega arith))
