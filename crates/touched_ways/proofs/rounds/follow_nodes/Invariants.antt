use Rattle.std.proofs.Common.{take}
use Rattle.road_base.specs.declared.ids.Key.TheVariants.{Node as NodeKey}
use Rattle.road_model.specs.Links.{IsLink}
use Rattle.touched_ways.specs.Searches.{Finds, GivenBy, AreFollowed}
use Rattle.touched_ways.proofs.rounds.follow_nodes.Given as goal

-- what the nodes so far give was found, and with it all that the hubs are linked to
abbrev pub invariant-loop-node : goal.invariant-loop-node
invariant-loop-node g l =
    Finds l.fn.found l.found
    (GivenBy (λ n. IsLink (g.M.World.objects l.world) (NodeKey n)) (take l.node-index l.nodes))
    × AreFollowed (IsLink (g.M.World.objects l.world)) l.hubs l.found
