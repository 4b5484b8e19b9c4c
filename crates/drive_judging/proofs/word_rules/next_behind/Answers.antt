-- What begins the word stands before the rest of it, of which the first step is the next one.
use Rattle.std.proofs.Common.{sym, ◌∙◌}
use Rattle.std.proofs.lemmas.Bool.{false≢true}
use Rattle.std.proofs.lemmas.Slice.Eq.{starts_is}
use Rattle.drive_judging.proofs.WordsCompared.{step_decides, next_at}
use Rattle.drive_judging.proofs.word_rules.next_behind.Goals as goal

pub returns-then-not-starts_with-clause-none : goal.returns-then-not-starts_with-clause-none
returns-then-not-starts_with-clause-none c next rest e =
    let is = starts_is step_decides c.args.word.now c.args.driven.now c.starts_with.result
    c.starts_with.ensures.value in
    false≢true (sym c.if-not-starts_with.true ∙ is.1 _ e)

pub returns-in-Some-clause-some : goal.returns-in-Some-clause-some
returns-in-Some-clause-some c =
    let is = starts_is step_decides c.args.word.now c.args.driven.now c.starts_with.result
    c.starts_with.ensures.value in
    let look = c.in-Some.ensures.lookup in
    next_at c.args.driven.now c.args.word.now _ c.in-Some.next.now (is.0 c.if-not-starts_with.false) look.3.0 look.1
