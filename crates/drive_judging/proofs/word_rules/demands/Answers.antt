-- A word that demands the step is found, or none does.
use Rattle.std.proofs.Common.{List, inl, inr, sym, ◌∙◌, subst, arith, refl, Contains}
use Rattle.std.proofs.lemmas.Bool.{false≢true}
use Rattle.std.proofs.lemmas.List.{take_all}
use Rattle.restrictions.specs.declared.word_list.Word.{Word}
use Rattle.drive_judging.specs.Judging.{DemandsNext}
use Rattle.ordered_lists.proofs.ListFronts.{among_more, among_item}
use Rattle.drive_judging.proofs.WordsCompared.{must_by, must_of}
use Rattle.drive_judging.proofs.word_rules.demands.Goals as goal

pub returns-then-demands_step : goal.returns-then-demands_step
returns-then-demands_step c =
    let has = among_item c.args.words.now c.loop-word.word-index c.word-item.result c.loop-word-test.true c.word-item.is
    in
    let demands = c.demands_step.ensures.0 c.if-demands_step.true in (
      λ h. must_by c.args.words.now c.args.driven.now c.args.step c.word-item.result has demands,
      λ m. refl,
    )

pub loop-word-preserved : goal.loop-word-preserved
loop-word-preserved c w has demands =
    elim (among_more c.args.words.now c.loop-word.word-index c.word-item.result c.loop-word-test.true w has) [
      | inl old ↦ c.loop-word.invariant w old demands
      | inr e ↦
          let here = subst (λ v. DemandsNext c.args.driven.now v c.args.step) (sym (c.word-item.is ∙ e)) demands in
          false≢true (sym c.if-demands_step.false ∙ c.demands_step.ensures.1 here)
    ]

pub returns : goal.returns
returns c = (
  λ h. absurd (false≢true h),
  λ m.
      let w = must_of c.args.words.now c.args.driven.now c.args.step m in
      let has = subst (λ (l : List Word). Contains l w.0)
      (sym (take_all c.loop-word.word-index c.args.words.now (let past = c.loop-word-test.false in omega arith))) w.1 in
      absurd (c.loop-word.invariant w.0 has w.2),
)
