use Rattle.std.proofs.lemmas.Result.{on_ok_weaker}
use Rattle.cell_check.proofs.LinkedKeys.{node_linked}
use Rattle.cell_check.proofs.links.follow_node.Goals as goal

pub returns : goal.returns
returns g c = on_ok_weaker c.reach_rules.result
    (node_linked (g.M.World.objects c.args.world.now) c.args.node c.ways_at.result.now c.ways_at.ensures
    c.rules_at.result.now c.rules_at.ensures c.args.start c.args.search.now c.reach_ways.new.search
    c.reach_rules.new.search c.in_ok-reach_ways.ensures) c.reach_rules.ensures
