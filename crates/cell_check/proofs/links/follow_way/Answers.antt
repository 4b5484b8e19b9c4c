use Rattle.std.proofs.lemmas.Result.{on_ok_weaker}
use Rattle.cell_check.proofs.LinkedKeys.{way_linked}
use Rattle.cell_check.proofs.links.follow_way.Goals as goal

pub returns : goal.returns
returns g c = on_ok_weaker c.reach_rules.result
    (way_linked (g.M.World.objects c.args.world.now) c.args.way c.nodes_of.result.now c.rules_of_way.result.now
    c.nodes_of.ensures c.rules_of_way.ensures c.args.start c.args.search.now c.reach_nodes.new.search
    c.reach_rules.new.search c.in_ok-reach_nodes.ensures) c.reach_rules.ensures
