use Rattle.std.proofs.Common.{◌-◌, arith}
use Rattle.cell_plan.specs.declared.sums.Tally.{Tally}
use Rattle.cell_plan.specs.Sums.{weight}
use Rattle.cell_plan.proofs.MergedTallies.{put_next, put_into}
use Rattle.cell_plan.proofs.merging.merge_next.Goals as goal

none : Tally
none = record { column = 0; row = 0; count = 0 }

pub returns-in-Some-clause-sum : goal.returns-in-Some-clause-sum
unfolding none
returns-in-Some-clause-sum c = λ wanted.
    put_into (weight wanted) c.args.tallies.now c.args.next none c.requires.next c.args.kept (c.args.kept - 1)
    c.in-Some.sum
    (omega (arith, c.if-kept-gt0.true)) c.requires.kept (c.in-Some.ensures wanted)

pub returns-clause-sum : goal.returns-clause-sum
unfolding none
returns-clause-sum c = λ wanted.
    put_next (weight wanted) c.args.tallies.now c.args.next none c.requires.next c.args.kept c.requires.kept
