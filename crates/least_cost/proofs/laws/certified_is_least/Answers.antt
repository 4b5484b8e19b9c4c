use Rattle.least_cost.proofs.LawLeast.{certified_least}
use Rattle.least_cost.proofs.laws.certified_is_least.Goals as goal

pub returns : goal.returns
returns g c M pi k = certified_least M _ c.args.a c.args.b c.args.cost pi (c.drives_cost.ensures M c.args.a c.args.b)
    (c.drives_over.ensures M c.args.a c.args.b) k
