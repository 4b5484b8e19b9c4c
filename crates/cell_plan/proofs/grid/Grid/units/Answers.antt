use Rattle.std.proofs.Common.{arith}
use Rattle.cell_plan.proofs.IntervalNumbers.{units_length, units_exactly}
use Rattle.cell_plan.proofs.grid.Grid.units.Goals as goal

pub returns-clause-exactly : goal.returns-clause-exactly
returns-clause-exactly c =
    let interval = c.args.interval in
    let side = c.args.self.side in
    units_exactly side interval.start interval.end c.args.from c.args.to c.max.result c.min.result c.args.self.positive
    (omega (arith, c.max.ensures, c.saturating_mul.ensures)) (omega (arith, c.min.ensures, c.saturating_mul-2.ensures))
    c.requires

pub returns-clause-length : goal.returns-clause-length
returns-clause-length c =
    let interval = c.args.interval in
    let side = c.args.self.side in
    units_length side interval.start interval.end c.args.from c.args.to c.max.result c.min.result c.args.self.positive
    (omega (arith, c.max.ensures, c.saturating_mul.ensures)) (omega (arith, c.min.ensures, c.saturating_mul-2.ensures))
    c.requires
