use Rattle.context_search.proofs.SearchFrontier.{pushed}
use Rattle.least_cost.proofs.frontier.CostFrontier.push.Goals as goal

pub returns : goal.returns
returns c = pushed (λ r. r.0.1) _ _ _ _ c.self.view_is c.in_ok-push.ensures.permutation
