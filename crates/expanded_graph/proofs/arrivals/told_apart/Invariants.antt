use Rattle.std.proofs.Common.{◌≡◌, map, take, IsTrue, Contains}
use Rattle.way_pieces.specs.Names.{piece_of}
use Rattle.expanded_graph.specs.declared.arrivals.Incoming.{Incoming}
use Rattle.expanded_graph.specs.Arrivals.{arrival_of}
use Rattle.expanded_graph.specs.Watched.{IsPlainPiece}
use Rattle.expanded_graph.proofs.arrivals.told_apart.Given as goal

-- the list has the arrivals so far, and those that are said to be plain are so
abbrev pub invariant-loop-arrival : goal.invariant-loop-arrival
invariant-loop-arrival g l = record {
  same : map arrival_of l.list.items ≡ take l.arrival-index l.arrivals;
  plain : (c : Incoming) → Contains l.list.items c → IsTrue c.is_plain
      → IsPlainPiece (g.M.World.objects l.network.world.now) (g.P.Profile.rules l.network.profile)
      l.watched.states.automaton l.watched.states.facts.items (piece_of (arrival_of c).span);
}
