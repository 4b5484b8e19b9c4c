-- The steps end with the word where the last ones are equal and the steps before end with what stands before it.
use Rattle.std.proofs.Common.{sym, ◌∙◌, refl}
use Rattle.std.proofs.lemmas.Bool.{false≢true}
use Rattle.std.proofs.lemmas.Slice.Eq.{ends_is}
use Rattle.drive_judging.proofs.WordsCompared.{step_decides, ends_more, ends_less, nothing_ends}
use Rattle.drive_judging.proofs.word_rules.ends_driven.Goals as goal

pub returns-then-eq : goal.returns-then-eq
returns-then-eq c =
    let word = c.in-Some.ensures.cases.0 in
    let start = c.in-Some.start.now in
    let last = c.in-Some.last.now in
    let is = ends_is step_decides c.args.before.now start c.ends_with.result c.ends_with.ensures.value in
    let same = (step_decides last c.args.step).0 (sym c.eq.ensures ∙ c.if-eq.true) in (
      λ h. ends_more c.args.before.now c.args.step c.args.word.now start last word same _ (is.0 h),
      λ h. is.1 h.0 (ends_less c.args.before.now c.args.step c.args.word.now start last word h.0 h.1).1,
    )

pub returns-else-eq : goal.returns-else-eq
returns-else-eq c =
    let word = c.in-Some.ensures.cases.0 in
    let start = c.in-Some.start.now in
    let last = c.in-Some.last.now in (
      λ h. absurd (false≢true (sym c.if-eq.false ∙ h)),
      λ h. c.eq.ensures ∙ (step_decides last c.args.step).1
          (ends_less c.args.before.now c.args.step c.args.word.now start last word h.0 h.1).0,
    )

pub returns-in-None : goal.returns-in-None
returns-in-None c = (λ h. nothing_ends _ c.args.word.now c.in-None.ensures.cases, λ h. refl)
