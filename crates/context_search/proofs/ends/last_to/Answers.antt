use Rattle.context_search.proofs.ends.last_to.Goals as goal

pub returns-then-stops-clause-some : goal.returns-then-stops-clause-some
returns-then-stops-clause-some c = c.stops.ensures.yes c.if-stops.true
