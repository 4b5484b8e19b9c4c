use Rattle.std.proofs.Common.{◌∙◌, sym, arith}
use Rattle.std.proofs.lemmas.Str.Pattern.{strip_prefix_char}
use Rattle.drive_queries.proofs.MessageSteps.{no_letter}
use Rattle.drive_queries.proofs.step_words.step_of.Goals as goal

pub returns-in_err-strip_prefix : goal.returns-in_err-strip_prefix
returns-in_err-strip_prefix c =
    let word = c.args.word.now in
    let found = strip_prefix_char 119 word c.strip_prefix.result c.strip_prefix.ensures.cases (omega arith) in
    let none = rw c.in_err-strip_prefix.was at found in
    c.from_residual.ensures ∙ sym (no_letter word none)
