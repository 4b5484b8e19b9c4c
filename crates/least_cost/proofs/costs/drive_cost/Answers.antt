use Rattle.std.proofs.Common.{◌∙◌, sym, ap, Some, arith}
use Rattle.least_cost.specs.Costs.{cost_of}
use Rattle.least_cost.proofs.LawCosts.{zero_plus}
use Rattle.least_cost.proofs.CostSums.{drive_more, drive_none, drive_all}
use Rattle.least_cost.proofs.costs.drive_cost.Goals as goal

pub loop-step-init : goal.loop-step-init
loop-step-init g c =
    let M = g.M.World.objects c.args.world.now in
    record { so_far = sym (zero_plus (cost_of M c.args.drive.now)); small = omega arith }

pub loop-step-preserved : goal.loop-step-preserved
loop-step-preserved g c =
    let l = c.loop-step in
    let cost = c.from-sum.ensures in
    record {
      so_far = drive_more (g.M.World.objects c.args.world.now) c.args.drive.now l.step-index l.sum _
          c.loop-step-test.true
          l.invariant.so_far c.from-sum.result (sym c.step_cost_of.ensures.cost ∙ c.in-Some.is ∙ ap Some (sym cost));
      small = let was = l.invariant.small in let below = c.in-Some.ensures.small in omega arith;
    }

pub returns : goal.returns
returns g c = sym (drive_all (g.M.World.objects c.args.world.now) c.args.drive.now c.loop-step.step-index
    c.loop-step.sum
    c.loop-step-test.false c.loop-step.invariant.so_far)

pub returns-in_default : goal.returns-in_default
returns-in_default g c =
    let l = c.loop-step in
    sym (drive_none (g.M.World.objects c.args.world.now) c.args.drive.now l.step-index l.sum _ c.loop-step-test.true
    l.invariant.so_far (sym c.step_cost_of.ensures.cost ∙ c.in_default.is))
