use Rattle.std.proofs.Common.{◌≡◌, ◌+ℤ◌, ◌-ℤ◌, arith, ◌∙◌}
use Rattle.std.specs.Prelude.{unsigned_abs}
use Rattle.least_cost.specs.Costs.{lon_difference, narrowed, straight, cost_between}
use Rattle.least_cost.proofs.costs.step_cost.Goals as goal

pub returns-clause-cost : goal.returns-clause-cost
unfolding cost_between
returns-clause-cost c =
    let a = c.args.from in
    let b = c.args.to in
    let across : c.narrowed-across.result
    ≡ narrowed (lon_difference a.lon b.lon) (unsigned_abs (a.lat +ℤ b.lat))
    = c.narrowed-across.ensures.is ∙ (λ i. narrowed (c.lon_difference.ensures.is i) (c.lat_sum.ensures.is i)) in
    let e : c.straight.result ≡ straight
    (narrowed (lon_difference a.lon b.lon) (unsigned_abs (a.lat +ℤ b.lat))) (unsigned_abs (a.lat -ℤ b.lat))
    = c.straight.ensures.is ∙ (λ i. straight (across i) (c.lat_difference.ensures.is i)) in
    omega (arith, e)
