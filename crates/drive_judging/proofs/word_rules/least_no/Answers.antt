-- One word more was looked at, and all were at the end.
use Rattle.std.proofs.Common.{List, subst, arith}
use Rattle.std.proofs.lemmas.List.{take_all}
use Rattle.restrictions.specs.declared.word_list.Word.{Word}
use Rattle.drive_judging.specs.Judging.{EndsDriven, IsLeastIf, WordWith}
use Rattle.drive_judging.proofs.WordsCompared.{word_next}
use Rattle.drive_judging.proofs.word_rules.least_no.Goals as goal

pub loop-word-preserved : goal.loop-word-preserved
loop-word-preserved c =
    word_next (EndsDriven c.args.before.now c.args.step) c.args.words.now c.loop-word.word-index c.word-item.result
    c.loop-word.least c.no_of.result c.lesser-least.result c.loop-word-test.true c.word-item.is c.lesser-least.ensures
    c.loop-word.invariant c.no_of.ensures.some c.no_of.ensures.none

pub returns : goal.returns
returns c =
    subst (λ (l : List Word). IsLeastIf (WordWith l (EndsDriven c.args.before.now c.args.step)) c.loop-word.least)
    (take_all c.loop-word.word-index c.args.words.now (let past = c.loop-word-test.false in omega arith))
    c.loop-word.invariant
