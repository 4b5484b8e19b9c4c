-- Where no word demands the step, each that demands another one is left.
use Rattle.std.proofs.Common.{sym, ◌∙◌}
use Rattle.std.proofs.lemmas.Bool.{false≢true}
use Rattle.drive_judging.proofs.WordsCompared.{left_least}
use Rattle.drive_judging.proofs.word_rules.least_left.Goals as goal

pub returns-else-demands : goal.returns-else-demands
returns-else-demands c =
    left_least c.args.words.now c.args.driven.now c.args.step
    (λ m. false≢true (sym c.if-demands.false ∙ c.demands.ensures.1 m)) c.least_bound.result c.least_bound.ensures
