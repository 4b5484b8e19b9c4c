use Rattle.std.proofs.Common.{◌≡◌, length}
use Rattle.expanded_graph.specs.Known.{AreKnown}
use Rattle.expanded_graph.proofs.states.facts_of.Given as goal

-- what is known of the states so far
abbrev pub invariant-loop-state : goal.invariant-loop-state
invariant-loop-state g l = record {
  count : length l.facts.items ≡ l.state;
  known : AreKnown (g.M.World.objects l.network.world.now) (g.P.Profile.rules l.network.profile) l.automaton
      l.facts.items;
}
