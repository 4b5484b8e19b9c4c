-- The lists of an automaton's tree are those of its states.
use Rattle.std.proofs.Common.{◌↔◌, List, Contains, subst}
use Rattle.road_base.specs.declared.ids.Step.{Step}
use Rattle.turn_automata.specs.Trees.{IsClosed}
use Rattle.turn_automata.specs.Watched.{IsWatchable}
use Rattle.turn_automata.specs.Machines.{Machine}
use Rattle.turn_automata.proofs.automaton.Automaton.closed.Goals as goal

pub returns-clause-closed : goal.returns-clause-closed
returns-clause-closed c = subst (λ (m : Machine). IsClosed m.states) c.self.view_is c.self.invariant.watching.closed

pub returns-clause-lists : goal.returns-clause-lists
returns-clause-lists c = subst (λ (m : Machine). (p : List Step) → Contains m.states p ↔ IsWatchable m.words p)
    c.self.view_is c.self.invariant.watching.lists
