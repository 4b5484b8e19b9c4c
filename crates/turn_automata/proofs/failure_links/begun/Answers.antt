use Rattle.std.proofs.Common.{[]}
use Rattle.turn_automata.proofs.LongestEnds.{begun_by, nothing_begun}
use Rattle.turn_automata.proofs.failure_links.begun.Goals as goal

pub returns-in-Some-clause-longest : goal.returns-in-Some-clause-longest
returns-in-Some-clause-longest c = begun_by c.args.tree.now c.closed.ensures c.args.step c.in-Some.child
    (c.in-Some.ensures.some [] c.closed.ensures.empty)

pub returns-in-None-clause-longest : goal.returns-in-None-clause-longest
returns-in-None-clause-longest c = nothing_begun c.args.tree.now c.closed.ensures c.args.step
    (c.in-None.ensures.none [] c.closed.ensures.empty)
