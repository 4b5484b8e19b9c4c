use Rattle.std.proofs.Common.{◌≡◌, length}
use Rattle.expanded_graph.specs.Intersections.{AreFreeAll}
use Rattle.expanded_graph.proofs.intersections.free_at.Given as goal

-- each node so far that is said to be free is so
abbrev pub invariant-loop-at : goal.invariant-loop-at
invariant-loop-at g l = record {
  count : length l.free.items ≡ l.at;
  free : AreFreeAll (g.M.World.objects l.network.world.now) (g.P.Profile.rules l.network.profile)
      l.watched.states.automaton l.watched.states.facts.items l.rules l.departures l.free.items;
}
