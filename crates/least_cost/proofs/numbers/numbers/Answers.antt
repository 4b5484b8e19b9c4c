use Rattle.std.proofs.Common.{◌∙◌}
use Rattle.least_cost.proofs.LawNumbers.{numbers_more}
use Rattle.least_cost.proofs.numbers.numbers.Goals as goal

pub loop-place-preserved : goal.loop-place-preserved
loop-place-preserved c =
    c.in_ok-push.ensures.items
    ∙ numbers_more c.args.spots.now c.in_ok-costs.costs.items c.args.visits.now c.args.best c.args.to
    c.loop-place.place c.index-spots-place.result c.index.result.now c.lowered.result c.loop-place.numbers.items
    c.loop-place-test.true c.index-spots-place.is c.index.ensures c.in_ok-costs.ensures c.lowered.ensures
    c.loop-place.invariant
