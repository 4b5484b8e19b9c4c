use Rattle.std.proofs.Common.{arith, sym, ap, ◌∙◌, reverse}
use Rattle.std.proofs.lemmas.Str.Pattern.{strip_suffix_char}
use Rattle.moment_rules.proofs.SpacedTexts.{no_space_last}
use Rattle.moment_rules.proofs.part.before_spaces.Goals as goal

pub returns : goal.returns
returns c =
    let rest = c.loop-before.rest.now in
    let found = strip_suffix_char 32 rest c.strip_suffix.result c.strip_suffix.ensures.cases (omega arith) in
    sym (ap reverse c.loop-before.invariant.0 ∙ no_space_last rest (rw c.in_default.is at found))
