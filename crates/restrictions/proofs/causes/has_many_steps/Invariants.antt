use Rattle.std.proofs.Common.{◌≡◌, ◌≤◌, sum_by, take}
use Rattle.road_model.specs.Restrictions.{steps_on}
use Rattle.restrictions.proofs.causes.has_many_steps.Given as goal

-- the steps on the keys so far
abbrev pub invariant-loop-key : goal.invariant-loop-key
invariant-loop-key g l = record {
  sum : l.steps ≡ sum_by (steps_on (g.M.World.objects l.world)) (take l.key-index l.keys);
  few : l.steps ≤ 1024;
}
