use Rattle.std.proofs.Common.{arith, sym}
use Rattle.std.proofs.lemmas.Str.Pattern.{strip_prefix_char, strip_suffix_char}
use Rattle.moment_rules.proofs.SpacedTexts.{not_opened, opened_only, opened_and_closed}
use Rattle.moment_rules.proofs.part.without_parentheses.Goals as goal

pub returns-in_default : goal.returns-in_default
returns-in_default c =
    let text = c.args.text.now in
    let found = strip_prefix_char 40 text c.strip_prefix.result c.strip_prefix.ensures.cases (omega arith) in
    sym (not_opened text (rw c.in_default.is at found))

pub returns-in-Some-strip_suffix : goal.returns-in-Some-strip_suffix
returns-in-Some-strip_suffix c =
    let text = c.args.text.now in
    let behind = c.in-Some.behind.now in
    let found = strip_prefix_char 40 text c.strip_prefix.result c.strip_prefix.ensures.cases (omega arith) in
    let ends = strip_suffix_char 41 behind c.strip_suffix.result c.strip_suffix.ensures.cases (omega arith) in
    sym (opened_and_closed text behind c.in-Some-strip_suffix.inner.now (rw c.in-Some.is at found)
    (rw c.in-Some-strip_suffix.is at ends))

pub returns-in-None : goal.returns-in-None
returns-in-None c =
    let text = c.args.text.now in
    let behind = c.in-Some.behind.now in
    let found = strip_prefix_char 40 text c.strip_prefix.result c.strip_prefix.ensures.cases (omega arith) in
    let ends = strip_suffix_char 41 behind c.strip_suffix.result c.strip_suffix.ensures.cases (omega arith) in
    sym (opened_only text behind (rw c.in-Some.is at found) (rw c.in-None.is at ends))
