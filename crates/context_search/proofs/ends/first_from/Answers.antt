use Rattle.context_search.proofs.ends.first_from.Goals as goal

pub returns-then-begins-clause-some : goal.returns-then-begins-clause-some
returns-then-begins-clause-some c = c.begins.ensures.yes c.if-begins.true
