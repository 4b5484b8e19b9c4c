use Rattle.std.proofs.Common.{◌≡◌, ◌<◌, ◌+◌, ◌∙◌, sym, arith, length}
use Rattle.least_cost.specs.Costs.{cost_between}
use Rattle.least_cost.proofs.CostSums.{places_more, places_end}
use Rattle.least_cost.proofs.costs.places_cost.Goals as goal

pub loop-step-preserved : goal.loop-step-preserved
loop-step-preserved c =
    let places = c.args.places.now in
    let x = c.index-places-step in
    let y = c.index-places-step-in-loop-step in
    let within : c.loop-step.step + 1 < length places = omega arith in
    let more = places_more places c.loop-step.step x.result y.result within x.is y.is in
    let here : c.step_cost.result ≡ cost_between x.result.location y.result.location
    = c.step_cost.ensures.cost ∙ (λ i. cost_between (sym x.is i).location (sym y.is i).location) in
    let old = c.loop-step.invariant.so_far in
    let added = c.from-sum.ensures in
    record { so_far = omega (arith, more, here, old, added); small = omega arith }

pub returns-clause-cost : goal.returns-clause-cost
returns-clause-cost c =
    let none = places_end c.args.places.now c.loop-step.step (omega arith) in
    omega (arith, none)
