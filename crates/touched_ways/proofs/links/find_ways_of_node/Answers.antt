use Rattle.touched_ways.proofs.LinkedKeys.{node_way_linked}
use Rattle.touched_ways.proofs.links.find_ways_of_node.Goals as goal

pub returns : goal.returns
returns g c =
    node_way_linked (g.M.World.objects c.args.world.now) c.args.node c.ways_at-ways.result.now c.ways_at-ways.ensures
    c.args.found.now c.add_ways.new.self c.in_ok-add_ways.ensures
