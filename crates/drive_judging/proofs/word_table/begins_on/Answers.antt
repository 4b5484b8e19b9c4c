-- A word begins on the steps where its first step is one of them.
use Rattle.std.proofs.Common.{List, ap, sym, ◌∙◌, slice_get}
use Rattle.std.proofs.lemmas.Bool.{false≢true}
use Rattle.road_base.specs.declared.ids.Step.{Step}
use Rattle.drive_judging.proofs.WordsGathered.{first_on, none_first}
use Rattle.drive_judging.proofs.word_table.begins_on.Goals as goal

pub returns-in-Some : goal.returns-in-Some
returns-in-Some c =
    let at = ap (λ (l : List Step). slice_get l 0) (sym c.items.ensures) ∙ sym c.in-Some.ensures.value in
    let on = first_on c.args.steps.now c.args.word.now.steps _ at in
    (λ h. on.0 (c.is_among.ensures.0 h), λ b. c.is_among.ensures.1 (on.1 b))

pub returns-in-None : goal.returns-in-None
returns-in-None c =
    let at = ap (λ (l : List Step). slice_get l 0) (sym c.items.ensures) ∙ sym c.in-None.ensures.value in
    (λ h. absurd (false≢true h), λ b. absurd (none_first c.args.steps.now c.args.word.now.steps at b))
