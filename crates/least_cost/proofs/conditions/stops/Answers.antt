use Rattle.std.proofs.Common.{◌+◌, arith}
use Rattle.std.proofs.lemmas.Option.{slice_get_within}
use Rattle.least_cost.proofs.conditions.stops.Goals as goal

pub returns-then-step-places-clause-yes : goal.returns-then-step-places-clause-yes
returns-then-step-places-clause-yes c t =
    let h = c.is_at.ensures.yes t in
    record { place = h.0; at = h.1; is = h.2 }

pub returns-else-step-places-clause-no : goal.returns-else-step-places-clause-no
returns-else-step-places-clause-no c f s =
    let h = slice_get_within c.args.places.now (c.args.step + 1) s.place s.at in
    omega (arith, h, c.if-step-places.false)
