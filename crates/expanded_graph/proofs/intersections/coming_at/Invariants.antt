use Rattle.std.proofs.Common.{◌≡◌, length, take}
use Rattle.expanded_graph.specs.Intersections.{AreComingAll}
use Rattle.expanded_graph.proofs.intersections.coming_at.Given as goal

-- a list for each of the nodes so far, of what comes there
abbrev pub invariant-loop-known : goal.invariant-loop-known
invariant-loop-known g l = record {
  count : length (take l.known-index l.rules) ≡ length l.arrivals;
  coming : AreComingAll (g.M.World.objects l.network.world.now) (g.P.Profile.rules l.network.profile)
      l.watched.states.automaton l.watched.states.facts.items (take l.known-index l.rules) l.arrivals;
}
