-- Where the words stop the step, a No word ends with it, or an Only word is left.
use Rattle.std.proofs.Common.{List, ◌∙◌, subst}
use Rattle.road_base.specs.declared.ids.RelationId.{RelationId}
use Rattle.restrictions.specs.declared.word_list.Word.{Word}
use Rattle.drive_judging.specs.Judging.{EndsDriven, WordWith}
use Rattle.drive_judging.proofs.WordsCompared.{stops_some}
use Rattle.drive_judging.proofs.word_rules.word_rule.Goals as goal

pub unreachable-requires : goal.unreachable-requires
unreachable-requires c =
    let is = c.items.ensures ∙ c.words.ensures in
    let none = subst (λ (l : List Word). (r : RelationId) → WordWith l (EndsDriven c.args.before.now c.args.step) r → ⊥)
    is c.in_default.ensures in
    stops_some c.args.automaton.now.words c.args.before.now c.args.step c.requires.stops none
    c.in_default-least_only.ensures

pub returns : goal.returns
returns c =
    let is = c.items.ensures ∙ c.words.ensures in
    let none = subst (λ (l : List Word). (r : RelationId) → WordWith l (EndsDriven c.args.before.now c.args.step) r → ⊥)
    is c.in_default.ensures in
    (c.in-Some-least_only.ensures, none)
