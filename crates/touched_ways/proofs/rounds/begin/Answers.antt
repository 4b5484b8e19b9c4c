use Rattle.std.proofs.Common.{Contains}
use Rattle.touched_ways.proofs.FoundKeys.{finds_given}
use Rattle.touched_ways.proofs.LinkRounds.{next_found, begun}
use Rattle.touched_ways.proofs.rounds.begin.Goals as goal

pub returns : goal.returns
returns c =
    let keys = c.args.keys.now in
    begun keys c.new-search.result c.take_in.new.self c.new-search.ensures.seen
    (next_found c.new-search.result c.take_in.new.self c.in_ok-found.found c.add_keys.new.self (Contains keys)
    c.in_ok-found.ensures
    (finds_given c.in_ok-found.found c.add_keys.new.self keys c.in_ok-add_keys.ensures) c.in_ok-take_in.ensures)
