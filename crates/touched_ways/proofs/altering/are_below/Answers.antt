use Rattle.std.proofs.Common.{arith, rules}
use Rattle.touched_ways.proofs.WayGaps.{before_below}
use Rattle.touched_ways.proofs.altering.are_below.Goals as goal

pub returns-in-Some : goal.returns-in-Some
returns-in-Some c =
    let there = c.in-Some.ensures.lookup.3 in
    λ yes. before_below c.name_order.ensures.ways c.args.ways.now c.requires _ c.in-Some.last.now c.args.way there.0
    there.1 c.args.count (omega arith) (search rules)
