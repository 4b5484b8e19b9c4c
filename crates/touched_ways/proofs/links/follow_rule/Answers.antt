use Rattle.std.proofs.lemmas.Result.{on_ok_weaker}
use Rattle.touched_ways.proofs.LinkedKeys.{rule_linked}
use Rattle.touched_ways.proofs.links.follow_rule.Goals as goal

pub returns : goal.returns
returns g c = on_ok_weaker c.add_members.result
    (rule_linked (g.M.World.objects c.args.world.now) c.args.rule c.members_of.result.now c.members_of.ensures
    c.args.found.now c.add_members.new.self) c.add_members.ensures
