-- The way of one step more is there, and all ways at the end.
use Rattle.std.proofs.Common.{◌≡◌, ◌↔◌, ◌+◌, List, sym, subst, arith, Contains, take}
use Rattle.std.proofs.lemmas.List.{take_all}
use Rattle.road_base.specs.declared.ids.WayId.{WayId}
use Rattle.road_base.specs.declared.ids.Step.{Step}
use Rattle.drive_judging.specs.DriveWords.{LiesOn}
use Rattle.drive_judging.proofs.WordsGathered.{ways_more}
use Rattle.drive_judging.proofs.word_table.ways_of.Goals as goal

pub loop-step-preserved : goal.loop-step-preserved
loop-step-preserved c w =
    subst (λ (l : List WayId). Contains l w ↔ LiesOn (take (c.loop-step.step-index + 1) c.args.steps.now) w)
    (sym c.in_ok-push.ensures.items)
    (ways_more c.args.steps.now c.loop-step.step-index _ c.loop-step.ways.items c.loop-step-test.true
    c.loop-step.invariant w)

pub returns : goal.returns
returns c w =
    let all : take c.loop-step.step-index c.args.steps.now ≡ c.args.steps.now =
    take_all c.loop-step.step-index c.args.steps.now (let past = c.loop-step-test.false in omega arith) in
    let are = c.loop-step.invariant w in
    let kept = c.leave_once.ensures.exactly w in (
      λ h. subst (λ (l : List Step). LiesOn l w) all (are.0 (kept.0 h)),
      λ h. kept.1 (are.1 (subst (λ (l : List Step). LiesOn l w) (sym all) h)),
    )
