use Rattle.std.proofs.Common.{◌+◌, arith}
use Rattle.std.proofs.lemmas.Option.{slice_get_within}
use Rattle.least_cost.proofs.conditions.holds_at_ends.Goals as goal

pub returns-clause-yes : goal.returns-clause-yes
returns-clause-yes c t j stops =
    let h = slice_get_within c.args.places.now (j + 1) stops.place stops.at in
    c.loop-step.invariant j (omega arith) stops
