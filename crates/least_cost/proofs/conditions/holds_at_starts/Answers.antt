use Rattle.std.proofs.Common.{arith}
use Rattle.least_cost.proofs.CheckPlaces.{starts_hold, starts_from}
use Rattle.least_cost.proofs.conditions.holds_at_starts.Goals as goal

pub returns-clause-yes : goal.returns-clause-yes
returns-clause-yes c t = starts_hold c.args.claim.now.a c.args.claim.now.b c.args.claim.now.cost c.args.number
    c.args.places.now (λ i begins. c.loop-step.invariant i (let h = begins.within in omega arith) begins)

pub returns-then-not-holds_at_start-clause-no : goal.returns-then-not-holds_at_start-clause-no
returns-then-not-holds_at_start-clause-no c f h = c.holds_at_start.ensures.no c.if-not-holds_at_start.true
    (starts_from c.args.claim.now.a c.args.claim.now.b c.args.claim.now.cost c.args.number c.args.places.now h
    c.loop-step.step)
