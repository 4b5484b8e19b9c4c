use Rattle.std.proofs.lemmas.Result.{on_ok_weaker}
use Rattle.cell_check.proofs.LinkedKeys.{rule_linked}
use Rattle.cell_check.proofs.links.follow_rule.Goals as goal

pub returns : goal.returns
returns g c = on_ok_weaker c.reach_members.result
    (rule_linked (g.M.World.objects c.args.world.now) c.args.rule c.members_of.result.now c.members_of.ensures
    c.args.start c.args.search.now c.reach_members.new.search) c.reach_members.ensures
