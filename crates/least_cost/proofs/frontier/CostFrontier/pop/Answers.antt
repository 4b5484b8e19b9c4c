use Rattle.context_search.proofs.SearchFrontier.{popped}
use Rattle.least_cost.proofs.frontier.CostFrontier.pop.Goals as goal
use Rattle.least_cost.proofs.frontier.CostFrontier.pop.Goals.{in-Some, in-None}

pub returns-clause-some : goal.returns-clause-some
returns-clause-some c = elim c.match-pop.branch [
  | in-Some w ↦ let h = popped
      (λ r. r.0.1) _ _ _ _ c.self.view_is w.in-Some.ensures.permutation
      in rw w.result-is h
  | in-None w ↦ rw w.result-is tt
]
