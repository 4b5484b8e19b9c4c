use Rattle.std.proofs.Common.{take, []}
use Rattle.least_cost.specs.CostVisits.{AreWithin, IsFoundBy, cost_in}
use Rattle.least_cost.proofs.beginning.least_within.Given as goal

-- the pieces of the starts so far are looked at
abbrev pub invariant-loop-start : goal.invariant-loop-start
invariant-loop-start l = record {
  within : AreWithin (take l.start-index l.starts) l.goals (cost_in l.best);
  found : IsFoundBy l.starts l.goals [] l.best;
}
