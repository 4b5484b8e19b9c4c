use Rattle.std.proofs.Common.{subst, take_all}
use Rattle.touched_ways.proofs.NumberLists.{AreAdded, added_none, added_more}
use Rattle.touched_ways.proofs.lists.add_each.Goals as goal

pub loop-number-init : goal.loop-number-init
loop-number-init g c = added_none c.args.list.now.items

pub loop-number-preserved : goal.loop-number-preserved
loop-number-preserved g c =
    added_more c.args.list.now.items c.loop-number.list.items c.add.new.list.items c.args.numbers.now
    c.loop-number.number-index c.number-item.result c.number-item.result c.loop-number-test.true
    c.number-item.is c.loop-number.invariant c.in_ok-add.ensures

pub returns : goal.returns
returns g c =
    subst (λ l. AreAdded c.args.list.now.items c.loop-number.list.items l)
    (take_all c.loop-number.number-index c.args.numbers.now c.loop-number-test.false) c.loop-number.invariant
