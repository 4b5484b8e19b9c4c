use Rattle.std.proofs.Common.{subst, take_all, arith}
use Rattle.touched_ways.specs.Searches.{IsRest}
use Rattle.touched_ways.proofs.NumberLists.{rest_none, rest_more}
use Rattle.touched_ways.proofs.lists.rest_of.Goals as goal

pub loop-number-init : goal.loop-number-init
loop-number-init g c = (rest_none c.args.gone.now _ c.requires.empty, omega arith)

pub loop-number-preserved : goal.loop-number-preserved
loop-number-preserved g c = (
  rest_more c.args.list.now c.args.gone.now c.loop-number.rest.items c.add_unless_at.new.list.items
      c.loop-number.number-index c.number-item.result c.loop-number-test.true c.number-item.is
      c.loop-number.invariant.0 c.in_ok-add_unless_at.ensures.only c.in_ok-add_unless_at.ensures.keeps
      c.in_ok-add_unless_at.ensures.adds,
  c.first_from-at.ensures.bound,
)

pub returns : goal.returns
returns g c =
    subst (λ l. IsRest l c.args.gone.now c.loop-number.rest.items)
    (take_all c.loop-number.number-index c.args.list.now c.loop-number-test.false) c.loop-number.invariant.0
