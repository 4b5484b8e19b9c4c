-- One step more is added, and one less is lacking.
use Rattle.way_lines.proofs.AddedSteps.{backward_more, front_more}
use Rattle.way_lines.proofs.step_lists.add_backward.Goals as goal

pub loop-done-preserved : goal.loop-done-preserved
loop-done-preserved c = record {
  lacking = backward_more c.args.way c.args.from c.args.count c.loop-done.done _ c.loop-done.steps.items
      c.push.new.self.items
      c.loop-done-test.true c.loop-done.invariant.lacking c.in_ok-push.ensures.items;
  front = front_more c.args.steps.now.items c.loop-done.steps.items _ _ c.loop-done.invariant.front
      c.in_ok-push.ensures.items;
}
