use Rattle.std.proofs.Common.{arith}
use Rattle.least_cost.proofs.CheckTables.{numbers_count, costs_count, over_holds, over_goes_on, over_ends}
use Rattle.least_cost.proofs.conditions.holds_on_arc.Goals as goal

pub number_of-from-requires : goal.number_of-from-requires
number_of-from-requires c =
    let t = c.args.numbered.now in
    let e = numbers_count t.spots.now t.numbers.now t.costs.now c.requires.numbered in
    omega arith

pub number_of-limit-requires : goal.number_of-limit-requires
number_of-limit-requires c =
    let t = c.args.numbered.now in
    let e = numbers_count t.spots.now t.numbers.now t.costs.now c.requires.numbered in
    let h = c.in_ok-to.ensures.within in
    omega arith

pub sum_of-sum-requires : goal.sum_of-sum-requires
sum_of-sum-requires c =
    let t = c.args.numbered.now in
    let e = costs_count t.spots.now t.numbers.now t.costs.now c.requires.numbered in
    let h = c.in_ok-to.ensures.within in
    omega arith

pub returns-then-goes_on-clause-yes : goal.returns-then-goes_on-clause-yes
returns-then-goes_on-clause-yes c t_is x at =
    let t = c.args.numbered.now in
    let m = c.args.claim.now in
    let o = c.name_order.ensures in
    let leads = c.in_ok-to.ensures.leads x at in
    over_holds t.spots.now t.numbers.now t.costs.now c.requires.numbered o.names o.lists m.b m.cost c.args.number
    c.in_ok-to.to x c.args.arc c.number_of-limit.result c.number_of-from.result c.sum_of-sum.result leads
    c.number_of-from.ensures c.number_of-limit.ensures c.sum_of-sum.ensures
    (c.is_at_most-goes_on.ensures.yes c.if-goes_on.true)
    (c.holds_up_to_goal-ends.ensures.yes t_is leads.to leads.at)

pub returns-then-goes_on-clause-no : goal.returns-then-goes_on-clause-no
returns-then-goes_on-clause-no c f_is x at h =
    let t = c.args.numbered.now in
    let m = c.args.claim.now in
    let o = c.name_order.ensures in
    let leads = c.in_ok-to.ensures.leads x at in
    c.holds_up_to_goal-ends.ensures.no f_is leads.to leads.at
    (over_ends t.spots.now t.numbers.now t.costs.now c.requires.numbered o.names o.lists m.b m.cost c.args.number
    c.in_ok-to.to x c.args.arc c.number_of-limit.result c.number_of-from.result c.sum_of-sum.result leads
    c.number_of-from.ensures c.number_of-limit.ensures c.sum_of-sum.ensures h)

pub returns-else-goes_on-clause-no : goal.returns-else-goes_on-clause-no
returns-else-goes_on-clause-no c f x at h =
    let t = c.args.numbered.now in
    let m = c.args.claim.now in
    let o = c.name_order.ensures in
    c.is_at_most-goes_on.ensures.no c.if-goes_on.false
    (over_goes_on t.spots.now t.numbers.now t.costs.now c.requires.numbered o.names o.lists m.b m.cost c.args.number
    c.in_ok-to.to x c.args.arc c.number_of-limit.result c.number_of-from.result c.sum_of-sum.result
    (c.in_ok-to.ensures.leads x at) c.number_of-from.ensures c.number_of-limit.ensures c.sum_of-sum.ensures h)
