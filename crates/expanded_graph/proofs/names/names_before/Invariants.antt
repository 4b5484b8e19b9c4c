use Rattle.std.proofs.Common.{◌<◌, length, List}
use Rattle.road_base.specs.declared.ids.WayId.{WayId}
use Rattle.road_base.specs.declared.ids.Step.{Step}
use Rattle.turn_automata.specs.Trees.{IsClosed}
use Rattle.turn_automata.specs.Machines.{StandsFor}
use Rattle.expanded_graph.specs.States.{AreStates}
use Rattle.expanded_graph.proofs.NamesBefore.{Path}
use Rattle.expanded_graph.proofs.names.names_before.Given as goal

-- the names so far are those behind the list of the state at hand
abbrev pub invariant-loop-at : goal.invariant-loop-at
invariant-loop-at g l =
    let M = g.M.World.objects l.network.world.now in
    let P = g.P.Profile.rules l.network.profile in
    let m = l.states.automaton in
    record {
      within : l.at < length m.states;
      path : (closed : IsClosed m.states) (w : WayId) (known : AreStates M P w m.words m.states l.states.facts.items)
          (q : List Step) → StandsFor m l.initial.at q
          → Path M P m l.states.facts.items closed w known q l.at l.names.items;
    }

abbrev pub decreases-loop-at : goal.decreases-loop-at
decreases-loop-at g l = l.at
