use Rattle.std.proofs.lemmas.Result.{on_ok_weaker}
use Rattle.touched_ways.proofs.LinkRounds.{all_further}
use Rattle.touched_ways.proofs.rounds.follow.Goals as goal

pub returns : goal.returns
returns g c =
    on_ok_weaker c.follow_rules.result
    (all_further (g.M.World.objects c.args.world.now) c.args.search.now c.as_slice.result.now c.as_slice-3.result.now
    c.as_slice.ensures.value c.as_slice-3.ensures.value c.args.found.now c.follow_nodes.new.found
    c.follow_ways.new.found c.follow_rules.new.found c.as_slice-2.result.now c.as_slice-2.ensures.value
    c.in_ok-follow_nodes.ensures c.in_ok-follow_ways.ensures) c.follow_rules.ensures
