use Rattle.road_base.specs.declared.ids.Key.TheVariants.{Node as NodeKey}
use Rattle.road_model.specs.Links.{IsLink}
use Rattle.touched_ways.proofs.FoundKeys.{finds_first, finds_next, finds_all}
use Rattle.touched_ways.proofs.FollowedNodes.{followed_none}
use Rattle.touched_ways.proofs.rounds.follow_nodes.Goals as goal

pub loop-node-init : goal.loop-node-init
loop-node-init g c = (
  finds_first (λ n. IsLink (g.M.World.objects c.args.world.now) (NodeKey n)) c.args.found.now c.args.nodes.now,
  followed_none (IsLink (g.M.World.objects c.args.world.now)) c.new-hubs.result c.args.found.now
      c.new-hubs.ensures.empty,
)

pub loop-node-preserved : goal.loop-node-preserved
loop-node-preserved g c = (
  finds_next (λ n. IsLink (g.M.World.objects c.args.world.now) (NodeKey n)) c.args.found.now c.loop-node.found
      c.follow_node_once.new.found c.args.nodes.now c.loop-node.node-index _ c.loop-node-test.true
      c.loop-node.invariant.0 c.in_ok-follow_node_once.ensures.finds,
  c.in_ok-follow_node_once.ensures.followed,
)

pub returns : goal.returns
returns g c =
    finds_all (λ n. IsLink (g.M.World.objects c.args.world.now) (NodeKey n)) c.args.found.now c.loop-node.found
    c.args.nodes.now c.loop-node.node-index c.loop-node-test.false c.loop-node.invariant.0
