use Rattle.std.proofs.Common.{sym, ◌∙◌}
use Rattle.touched_ways.specs.Searches.{IsWayLink}
use Rattle.touched_ways.proofs.FollowedNodes.{followed_still, followed_more, finds_followed}
use Rattle.touched_ways.proofs.hubs.find_ways_once.Goals as goal

pub returns-then-contains : goal.returns-then-contains
returns-then-contains g c = record {
  finds = finds_followed (IsWayLink (g.M.World.objects c.args.world.now)) c.args.hubs.now c.args.found.now c.args.node
      (sym c.contains.ensures ∙ c.if-contains.true) c.requires;
  followed = c.requires;
}

pub returns-in_ok-insert-clause-followed : goal.returns-in_ok-insert-clause-followed
returns-in_ok-insert-clause-followed g c =
    let Link = IsWayLink (g.M.World.objects c.args.world.now) in
    followed_more Link c.args.hubs.now c.insert.new.self c.find_ways_of_node.new.found c.args.node
    c.number_order.ensures.node_ties c.in_ok-insert.ensures.updates
    (followed_still Link c.args.hubs.now c.args.found.now c.find_ways_of_node.new.found _ c.in_ok-is_hub.ensures
    c.requires) c.in_ok-is_hub.ensures.complete
