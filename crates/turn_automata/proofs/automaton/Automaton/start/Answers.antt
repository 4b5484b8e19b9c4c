use Rattle.std.proofs.Common.{[], ◌∷◌, subst}
use Rattle.turn_automata.specs.Machines.{Watches}
use Rattle.turn_automata.proofs.AutomatonStates.{watches, links_there}
use Rattle.turn_automata.proofs.automaton.Automaton.start.Goals as goal

pub returns-clause-state : goal.returns-clause-state
returns-clause-state c =
    let a = c.self.inside in
    let is = c.self.invariant in
    subst (λ m. Watches m c.longest.result (c.args.step ∷ [])) c.self.view_is
    (watches a.words a.tree is.watching.lists (c.args.step ∷ []) c.longest.result
    (c.longest.ensures.longest (links_there a.words a.tree a.links.items c.as_slice.result.now a.turns a.stopped is
    c.as_slice.ensures.value) [] is.watching.closed.empty))
