use Rattle.touched_ways.proofs.LinkedKeys.{node_linked}
use Rattle.touched_ways.proofs.links.follow_node.Goals as goal

pub returns : goal.returns
returns g c =
    node_linked (g.M.World.objects c.args.world.now) c.args.node c.ways_at-ways.result.now c.ways_at-ways.ensures
    c.rules_at-rules.result.now c.rules_at-rules.ensures c.args.found.now c.add_ways.new.self c.add_rules.new.self
    c.in_ok-add_ways.ensures c.in_ok-add_rules.ensures
