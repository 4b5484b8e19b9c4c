use Rattle.std.proofs.Common.{◌≡◌, ◌≤◌, ◌*◌, ◌^◌, Some, drop}
use Rattle.least_cost.specs.Costs.{plus, cost_of}
use Rattle.least_cost.proofs.costs.drive_cost.Given as goal

-- what is added up, and what is left
abbrev pub invariant-loop-step : goal.invariant-loop-step
invariant-loop-step g l = record {
  so_far : cost_of (g.M.World.objects l.world) l.drive
      ≡ plus (Some l.sum) (cost_of (g.M.World.objects l.world) (drop l.step-index l.drive));
  small : l.sum ≤ l.step-index * 2 ^ 32;
}
