use Rattle.std.proofs.lemmas.Result.{on_ok_weaker}
use Rattle.touched_ways.specs.Searches.{IsFurtherInOne}
use Rattle.touched_ways.proofs.LinkRounds.{next_found, further_in_one}
use Rattle.touched_ways.proofs.rounds.round_in_both.Goals as goal

pub returns : goal.returns
returns g c =
    let M = g.M.World.objects c.args.one.now in
    let N = g.N.World.objects c.args.other.now in
    let s = c.args.search.now in
    on_ok_weaker c.take_in.result
    (next_found s c.take_in.new.self c.in_ok-found.found c.follow-2.new.found (IsFurtherInOne M N s)
    c.in_ok-found.ensures
    (further_in_one M N s c.in_ok-found.found c.follow.new.found c.follow-2.new.found c.in_ok-follow.ensures
    c.in_ok-follow-2.ensures)) c.take_in.ensures
