use Rattle.std.proofs.Common.{rules}
use Rattle.touched_ways.proofs.WayGaps.{behind_above}
use Rattle.touched_ways.proofs.altering.are_above.Goals as goal

pub returns-in-Some : goal.returns-in-Some
returns-in-Some c =
    let there = c.in-Some.ensures.lookup.3 in
    λ yes. behind_above c.name_order.ensures.ways c.args.ways.now c.requires c.args.from c.in-Some.first.now c.args.way
    there.0 there.1 (search rules)
