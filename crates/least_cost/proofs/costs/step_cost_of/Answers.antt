use Rattle.std.proofs.Common.{◌≡◌, ◌∙◌, sym, ap, Some, None}
use Rattle.road_model.specs.Lines.{tail_of, head_of}
use Rattle.least_cost.specs.Costs.{location_of, cost_by, step_cost_of}
use Rattle.least_cost.proofs.costs.step_cost_of.Goals as goal

pub returns-in_default-clause-cost : goal.returns-in_default-clause-cost
unfolding step_cost_of
returns-in_default-clause-cost g c =
    let M = g.M.World.objects c.args.world.now in
    let from : location_of M (tail_of M c.args.step) ≡ None
    = sym (c.location_of.ensures ∙ ap (location_of M) c.tail.ensures) ∙ c.in_default.is in
    sym (ap (λ o. cost_by o (location_of M (head_of M c.args.step))) from)

pub returns-in_default-location_of-clause-cost : goal.returns-in_default-location_of-clause-cost
unfolding step_cost_of
returns-in_default-location_of-clause-cost g c =
    let M = g.M.World.objects c.args.world.now in
    let from : location_of M (tail_of M c.args.step) ≡ Some c.in-Some.from
    = sym (c.location_of.ensures ∙ ap (location_of M) c.tail.ensures) ∙ c.in-Some.is in
    let to : location_of M (head_of M c.args.step) ≡ None
    = sym (c.location_of-2.ensures ∙ ap (location_of M) c.head.ensures) ∙ c.in_default-location_of.is in
    sym (λ i. cost_by (from i) (to i))

pub returns-clause-cost : goal.returns-clause-cost
unfolding step_cost_of
returns-clause-cost g c =
    let M = g.M.World.objects c.args.world.now in
    let from : location_of M (tail_of M c.args.step) ≡ Some c.in-Some.from
    = sym (c.location_of.ensures ∙ ap (location_of M) c.tail.ensures) ∙ c.in-Some.is in
    let to : location_of M (head_of M c.args.step) ≡ Some c.in-Some-location_of.to
    = sym (c.location_of-2.ensures ∙ ap (location_of M) c.head.ensures) ∙ c.in-Some-location_of.is in
    ap Some c.step_cost.ensures.cost ∙ sym (λ i. cost_by (from i) (to i))
