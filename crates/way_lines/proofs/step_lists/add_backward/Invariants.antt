use Rattle.std.proofs.Common.{◌≡◌, ◌++◌, length, take, ◌-◌}
use Rattle.road_model.specs.Lines.{backward_steps}
use Rattle.way_lines.proofs.step_lists.add_backward.Given as goal

-- the steps below the last one are lacking, and what was there before stands in front
abbrev pub invariant-loop-done : goal.invariant-loop-done
invariant-loop-done l = record {
  lacking : l.initial.steps.items ++ backward_steps l.way l.from l.count
      ≡ l.steps.items ++ backward_steps l.way l.from (l.count - l.done);
  front : take (length l.initial.steps.items) l.steps.items ≡ l.initial.steps.items;
}
