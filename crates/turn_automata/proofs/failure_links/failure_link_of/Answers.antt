use Rattle.std.proofs.Common.{[], arith, sym, subst}
use Rattle.turn_automata.specs.Trees.{Stands}
use Rattle.turn_automata.proofs.LongestEnds.{links_first, links_next, links_below}
use Rattle.turn_automata.proofs.failure_links.failure_link_of.Goals as goal

pub returns-then-from-eq0-clause-longest : goal.returns-then-from-eq0-clause-longest
returns-then-from-eq0-clause-longest c =
    links_first c.args.tree.now c.closed.ensures c.args.list c.edge-from.result.1
    (c.edge-from.ensures.is [] (subst (λ n. Stands c.args.tree.now n []) (sym c.if-from-eq0.true)
    c.closed.ensures.empty))

pub returns-else-from-eq0-clause-less : goal.returns-else-from-eq0-clause-less
returns-else-from-eq0-clause-less c =
    links_below c.args.tree.now c.closed.ensures c.args.links.now c.requires.links c.edge-from.result.0 c.args.list
    c.edge-from.result.1 c.longest.result
    (omega (arith, c.if-from-eq0.false)) (omega (arith, c.edge-from.ensures.less)) c.edge-from.ensures.is
    (omega (arith, c.edge-from.ensures.less))
    (c.longest.ensures.longest c.requires.links) c.requires.rises

pub returns-else-from-eq0-clause-longest : goal.returns-else-from-eq0-clause-longest
returns-else-from-eq0-clause-longest c =
    links_next c.args.tree.now c.closed.ensures c.args.links.now c.requires.links c.edge-from.result.0 c.args.list
    c.edge-from.result.1 c.longest.result
    (omega (arith, c.if-from-eq0.false)) (omega (arith, c.edge-from.ensures.less)) c.edge-from.ensures.is
    (omega (arith, c.edge-from.ensures.less))
    (c.longest.ensures.longest c.requires.links)
