-- A word demands one step at most.
use Rattle.std.proofs.Common.{sym, ◌∙◌, subst}
use Rattle.drive_judging.specs.Judging.{DemandsNext}
use Rattle.drive_judging.proofs.WordsCompared.{step_decides, one_demanded}
use Rattle.drive_judging.proofs.word_rules.demands_step.Goals as goal

pub returns-in-Some : goal.returns-in-Some
returns-in-Some c =
    let says = c.in-Some.ensures.some in (
      λ h. subst (DemandsNext c.args.driven.now c.args.word.now)
          ((step_decides c.in-Some.next c.args.step).0 (sym c.eq.ensures ∙ h)) says,
      λ h. c.eq.ensures ∙ (step_decides c.in-Some.next c.args.step).1
          (one_demanded c.args.driven.now c.args.word.now c.in-Some.next c.args.step says h),
    )
