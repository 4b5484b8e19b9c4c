use Rattle.least_cost.proofs.LawCosts.{legal_costs}
use Rattle.least_cost.proofs.laws.drives_cost.Goals as goal

pub returns : goal.returns
returns g c M a b d l = legal_costs M _ d l.legal
