use Rattle.std.proofs.Common.{ap, arith}
use Rattle.std.proofs.lemmas.Str.Pattern.{strip_suffix_char}
use Rattle.std.specs.Option.{option_and_then}
use Rattle.drive_queries.specs.Messages.{dir_of}
use Rattle.drive_queries.proofs.MessageSteps.{last_sign, no_sign}
use Rattle.drive_queries.proofs.step_words.before_sign.Goals as goal

pub returns-in_err-front-clause-none : goal.returns-in_err-front-clause-none
returns-in_err-front-clause-none c =
    let word = c.args.word.now in
    let plus = strip_suffix_char 43 word c.strip_suffix.result c.strip_suffix.ensures.cases (omega arith) in
    let minus = strip_suffix_char 45 word c.strip_suffix-2.result c.strip_suffix-2.ensures.cases (omega arith) in
    let no_plus = rw c.in_default.is at plus in
    let no_minus = rw c.in_err-front.was at minus in
    rw c.from_residual.ensures (no_sign word no_plus no_minus)

pub returns-clause-dir : goal.returns-clause-dir
returns-clause-dir c =
    let word = c.args.word.now in
    let found = strip_suffix_char 45 word c.strip_suffix-2.result c.strip_suffix-2.ensures.cases (omega arith) in
    let minus = rw c.in_ok-front.was at found in
    ap (option_and_then dir_of) (last_sign word c.in_ok-front.front.now 45 minus)
