use Rattle.least_cost.proofs.conditions.begins.Goals as goal

pub returns-then-step-places-clause-yes : goal.returns-then-step-places-clause-yes
returns-then-step-places-clause-yes c t =
    let h = c.is_at.ensures.yes t in
    record { place = h.0; at = h.1; is = h.2; within = c.if-step-places.true }
