use Rattle.std.proofs.Common.{◌-◌, ap, arith}
use Rattle.std.proofs.lemmas.List.Sums.{sum_by-set}
use Rattle.cell_plan.specs.Sums.{weight}
use Rattle.cell_plan.proofs.merging.add_tally.Goals as goal

pub returns-in-Some-clause-ok : goal.returns-in-Some-clause-ok
returns-in-Some-clause-ok c = λ wanted.
    let last = c.len-count.result - 1 in
    let here = c.index.result.now in
    let put = sum_by-set (weight wanted) c.args.tallies.now.items last c.in-Some.sum here
    (omega (arith, c.if-count-gt0.true, c.len-count.ensures)) in
    omega (arith, put, c.in-Some.ensures wanted, ap (weight wanted) c.index.ensures)
