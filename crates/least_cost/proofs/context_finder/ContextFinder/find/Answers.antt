use Rattle.least_cost.proofs.NearContexts.{alone_there}
use Rattle.least_cost.proofs.context_finder.ContextFinder.find.Goals as goal

pub returns-in-Some-clause-within : goal.returns-in-Some-clause-within
returns-in-Some-clause-within c = (alone_there c.args.spots.now c.args.self.now c.args.piece c.args.before.now
    c.in-Some.place c.requires.of c.in-Some.ensures).0

pub returns-in-Some-clause-some : goal.returns-in-Some-clause-some
returns-in-Some-clause-some c = (alone_there c.args.spots.now c.args.self.now c.args.piece c.args.before.now
    c.in-Some.place c.requires.of c.in-Some.ensures).1
