use Rattle.std.proofs.Common.{◌≡◌, length}
use Rattle.expanded_graph.specs.Intersections.{AreLeavingAll}
use Rattle.expanded_graph.proofs.intersections.leaving_at.Given as goal

-- as many lists of departures as nodes so far, and each is told of its node
abbrev pub invariant-loop-node : goal.invariant-loop-node
invariant-loop-node g l = record {
  count : length l.rules.items ≡ length l.departures;
  leaving : AreLeavingAll (g.M.World.objects l.network.world.now) (g.P.Profile.rules l.network.profile) l.rules.items
      l.departures;
}
