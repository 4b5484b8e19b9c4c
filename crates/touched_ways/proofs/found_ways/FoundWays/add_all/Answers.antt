use Rattle.std.proofs.Common.{subst, take_all, refl}
use Rattle.touched_ways.proofs.NumberLists.{AreAdded, added_none, added_more}
use Rattle.touched_ways.proofs.found_ways.FoundWays.add_all.Goals as goal

pub loop-way-init : goal.loop-way-init
loop-way-init c = added_none c.args.self.now.list.items

pub loop-way-preserved : goal.loop-way-preserved
loop-way-preserved c =
    added_more c.args.self.now.list.items c.loop-way.self.list.items c.add.new.self.list.items c.args.ways.now
    c.loop-way.way-index _ _ c.loop-way-test.true refl c.loop-way.invariant c.in_ok-add.ensures

pub returns : goal.returns
returns c =
    subst (λ l. AreAdded c.args.self.now.list.items c.loop-way.self.list.items l)
    (take_all c.loop-way.way-index c.args.ways.now c.loop-way-test.false) c.loop-way.invariant
