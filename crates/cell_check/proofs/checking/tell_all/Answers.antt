use Rattle.cell_check.specs.Outcomes.{is_passed, failing_in}
use Rattle.cell_check.proofs.SearchedWays.{kept_next, told_next}
use Rattle.cell_check.proofs.checking.tell_all.Goals as goal

pub loop-way-preserved : goal.loop-way-preserved
loop-way-preserved c =
    let s = c.args.search.now in
    let i = c.loop-way.way-index in
    record {
      passing = kept_next (is_passed s) c.args.checked.now.passing.items c.loop-way.checked.passing.items
          c.tell.new.checked.passing.items c.args.ways.now i _ c.loop-way-test.true c.loop-way.invariant.passing
          c.in_ok-tell.ensures.passing;
      failing = told_next (failing_in s) c.args.checked.now.failing.items c.loop-way.checked.failing.items
          c.tell.new.checked.failing.items c.args.ways.now i _ c.loop-way-test.true c.loop-way.invariant.failing
          c.in_ok-tell.ensures.failing;
    }
