use Rattle.std.proofs.Common.{arith, sym, ◌∙◌}
use Rattle.std.proofs.lemmas.Str.Pattern.{strip_prefix_char}
use Rattle.moment_rules.proofs.SpacedTexts.{no_space_first}
use Rattle.moment_rules.proofs.part.behind_spaces.Goals as goal

pub returns : goal.returns
returns c =
    let rest = c.loop-behind.rest.now in
    let found = strip_prefix_char 32 rest c.strip_prefix.result c.strip_prefix.ensures.cases (omega arith) in
    sym (c.loop-behind.invariant.0 ∙ no_space_first rest (rw c.in_default.is at found))
