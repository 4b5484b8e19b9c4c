use Rattle.std.proofs.lemmas.Result.{on_ok_weaker}
use Rattle.touched_ways.specs.Searches.{IsFurther}
use Rattle.touched_ways.proofs.LinkRounds.{next_found}
use Rattle.touched_ways.proofs.rounds.next_round.Goals as goal

pub returns : goal.returns
returns g c =
    let s = c.args.search.now in
    on_ok_weaker c.take_in.result
    (next_found s c.take_in.new.self c.in_ok-found.found c.follow.new.found
    (IsFurther (g.M.World.objects c.args.world.now) s) c.in_ok-found.ensures c.in_ok-follow.ensures) c.take_in.ensures
