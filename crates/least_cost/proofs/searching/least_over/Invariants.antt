use Rattle.std.proofs.Common.{◌≡◌, List, Some, slice_get, take}
use Rattle.least_cost.specs.declared.visiting.CostVisit.{CostVisit}
use Rattle.least_cost.specs.CostVisits.{IsMetBy}
use Rattle.least_cost.proofs.searching.least_over.Given as goal

-- the drives by the arcs so far are looked at
abbrev pub invariant-loop-arc : goal.invariant-loop-arc
invariant-loop-arc l = (visits : List CostVisit) → slice_get visits l.place ≡ Some l.visit
    → IsMetBy l.goals visits l.visit.cost (take l.arc-index l.arc-items) l.fn.best l.least
