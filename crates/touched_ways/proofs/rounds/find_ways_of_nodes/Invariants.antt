use Rattle.std.proofs.Common.{take}
use Rattle.road_base.specs.declared.ids.Key.TheVariants.{Node as NodeKey}
use Rattle.touched_ways.specs.Searches.{Finds, GivenBy, AreFollowed, IsWayLink}
use Rattle.touched_ways.proofs.rounds.find_ways_of_nodes.Given as goal

-- what the nodes so far give was found, and with it all that the hubs are linked to
abbrev pub invariant-loop-node : goal.invariant-loop-node
invariant-loop-node g l =
    Finds l.fn.found l.found
    (GivenBy (λ n. IsWayLink (g.M.World.objects l.world) (NodeKey n)) (take l.node-index l.nodes))
    × AreFollowed (IsWayLink (g.M.World.objects l.world)) l.hubs l.found
