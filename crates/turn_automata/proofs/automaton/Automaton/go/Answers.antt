use Rattle.std.proofs.Common.{◌≡◌, ◌↔◌, List, [], ◌∷◌, ◌++◌, Option, Some, None, refl, sym, subst, ◌∙◌}
use Rattle.std.proofs.lemmas.Bool.{false≢true}
use Rattle.road_base.specs.declared.ids.Step.{Step}
use Rattle.turn_automata.specs.declared.automaton.State.{State}
use Rattle.turn_automata.specs.Watched.{Stops}
use Rattle.turn_automata.specs.Machines.{Machine, StandsFor, Watches}
use Rattle.turn_automata.proofs.AutomatonStates.{watches, links_there, watching_there, none_empty, empty_stops}
use Rattle.turn_automata.proofs.AutomatonStates.{drives_on, drive_stops}
use Rattle.turn_automata.proofs.automaton.Automaton.go.Goals as goal
use Rattle.turn_automata.proofs.automaton.Automaton.go.Goals.{then-self-via-then-self}
use Rattle.turn_automata.proofs.automaton.Automaton.go.Goals.{then-self-via-else-self+then-stops}

pub returns-then-self-clause-none : goal.returns-then-self-clause-none
returns-then-self-clause-none c =
    let a = c.self.inside in
    let is = c.self.invariant in
    subst (λ (m : Machine). (p : List Step) → StandsFor m c.args.state.0 p
    → (◌≡◌ {A = Option State} None None) ↔ Stops m.words p c.args.step) c.self.view_is
    (λ p st. (
      λ _. elim c.then-self.branch [
        | then-self-via-then-self w ↦ empty_stops a.words a.tree a.links.items a.turns a.stopped is w.if-self.true p
            c.args.step
        | then-self-via-else-self+then-stops w ↦
            (w.stops.ensures a.words a.tree (watching_there a.words a.tree a.links.items w.as_slice.result.now a.turns
            a.stopped is w.as_slice.ensures.value)
            (none_empty a.words a.tree a.links.items a.turns a.stopped is w.if-self.false) p st).0 w.if-stops.true
      ],
      λ _. refl,
    ))

not_none : (s : State) → ◌≡◌ {A = Option State} (Some s) None → ⊥
not_none s e = cc

pub returns-clause-none : goal.returns-clause-none
returns-clause-none c =
    let a = c.self.inside in
    let is = c.self.invariant in
    subst (λ (m : Machine). (p : List Step) → StandsFor m c.args.state.0 p
    → (◌≡◌ {A = Option State} (Some (record { 0 = c.longest.result })) None) ↔ Stops m.words p c.args.step)
    c.self.view_is
    (λ p st. (
      λ e. absurd (not_none _ e),
      λ g. absurd (false≢true (sym c.if-stops.false
          ∙ (c.stops.ensures a.words a.tree (watching_there a.words a.tree a.links.items c.as_slice.result.now a.turns
          a.stopped is c.as_slice.ensures.value) (none_empty a.words a.tree a.links.items a.turns a.stopped is
          c.if-self.false) p st).1 g)),
    ))

pub returns-clause-some : goal.returns-clause-some
returns-clause-some c =
    let a = c.self.inside in
    let is = c.self.invariant in
    subst (λ (m : Machine). (p : List Step) → StandsFor m c.args.state.0 p
    → Watches m c.longest.result (p ++ c.args.step ∷ [])) c.self.view_is
    (λ p st. watches a.words a.tree is.watching.lists (p ++ c.args.step ∷ []) c.longest.result
    (c.longest.ensures.longest (links_there a.words a.tree a.links.items c.as_slice-2.result.now a.turns a.stopped is
    c.as_slice-2.ensures.value) p st))

pub returns-then-self-clause-stopped : goal.returns-then-self-clause-stopped
returns-then-self-clause-stopped c = λ d w. drive_stops c.args.self.now c.args.state.0 d c.args.step w _
    (returns-then-self-clause-none c w.list w.is)

pub returns-clause-stopped : goal.returns-clause-stopped
returns-clause-stopped c = λ d w. drive_stops c.args.self.now c.args.state.0 d c.args.step w _
    (returns-clause-none c w.list w.is)

pub returns-clause-driven : goal.returns-clause-driven
returns-clause-driven c = λ d w. drives_on c.args.self.now c.args.state.0 d c.args.step w c.longest.result
    (returns-clause-some c w.list w.is)
