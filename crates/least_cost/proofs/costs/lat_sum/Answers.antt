use Rattle.std.proofs.Common.{arith}
use Rattle.std.proofs.lemmas.Int.{ints}
use Rattle.least_cost.proofs.CostSizes.{location_sizes}
use Rattle.least_cost.proofs.costs.lat_sum.Goals as goal

pub returns-clause-small : goal.returns-clause-small
returns-clause-small c =
    let f = location_sizes c.args.from.lon c.args.from.lat c.args.from.in_range in
    let t = location_sizes c.args.to.lon c.args.to.lat c.args.to.in_range in
    grind (arith, ints)
