use Rattle.std.proofs.lemmas.Result.{on_ok_weaker}
use Rattle.touched_ways.proofs.LinkedKeys.{way_linked}
use Rattle.touched_ways.proofs.links.follow_way.Goals as goal

pub returns : goal.returns
returns g c = on_ok_weaker c.add_rules.result
    (way_linked (g.M.World.objects c.args.world.now) c.args.way c.nodes_of.result.now c.rules_of_way.result.now
    c.nodes_of.ensures c.rules_of_way.ensures c.args.found.now c.add_nodes.new.self c.add_rules.new.self
    c.in_ok-add_nodes.ensures) c.add_rules.ensures
