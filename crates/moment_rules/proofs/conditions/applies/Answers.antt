use Rattle.std.proofs.Common.{◌≡◌, Some, sym, ap, ◌∙◌}
use Rattle.std.specs.Option.{option_map, option_and_then}
use Rattle.opl_lexer.specs.Parts.{parts}
use Rattle.moment_rules.specs.Shapes.{one_or_two}
use Rattle.moment_rules.specs.Conditions.{applies, condition_between}
use Rattle.moment_rules.proofs.ConditionCases.{both_alike}
use Rattle.moment_rules.proofs.conditions.applies.Goals as goal

pub returns : goal.returns
returns c =
    let at = c.args.at in
    let parted : one_or_two (parts 32 c.args.text.now) ≡ Some (c.in_ok-first.first.now, Some c.in-Some.times.now) =
    rw c.in-Some.is at c.in_ok-first.ensures.some in
    let meant = sym c.has_a_day.ensures ∙ c.in_ok-meant.was in
    let before = sym (rw c.day_before.ensures at c.has_a_day-2.ensures) ∙ c.in_ok-before.was in
    c.has_a_minute.ensures
    ∙ (sym (both_alike at c.in_ok-first.first.now c.in-Some.times.now c.in_ok-meant.meant c.in_ok-before.before meant
    before) ∙ sym (ap (λ o. option_map (applies at) (option_and_then condition_between o)) parted))
