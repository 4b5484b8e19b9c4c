use Rattle.std.proofs.Common.{◌≡◌, ◌∷◌, rules}
use Rattle.opl_lexer.specs.Parts.{parts}
use Rattle.moment_rules.proofs.TextCuts.{three_parts}
use Rattle.moment_rules.proofs.cutting.one_or_two.Goals as goal

pub returns-in_default-Some-clause-none : goal.returns-in_default-Some-clause-none
returns-in_default-Some-clause-none c =
    let stop = c.args.stop in
    let one : parts stop c.args.text.now ≡ c.cut.result.0.now ∷ parts stop c.in-Some.rest.now = search rules in
    let two : parts stop c.in-Some.rest.now ≡ c.cut-2.result.0.now ∷ parts stop c.in_default-Some.field-0-1.now =
    search rules in
    three_parts stop c.args.text.now _ _ _ _ one two
