-- What the step alone breaks, it breaks behind any steps.
use Rattle.std.proofs.Common.{[], ◌∷◌, Contains, sym}
use Rattle.std.proofs.lemmas.List.Elements.{Contains-append_left}
use Rattle.ordered_lists.proofs.ListPlaces.{contains_at}
use Rattle.drive_judging.proofs.JudgedDrives.{has_first}
use Rattle.drive_judging.proofs.step_rules.step_rule.Goals as goal

pub returns-in-Some-clause-some : goal.returns-in-Some-clause-some
returns-in-Some-clause-some g c = c.in-Some.ensures.some c.args.before.now

pub rule_between-requires-clause-from : goal.rule_between-requires-clause-from
rule_between-requires-clause-from g c =
    let last = c.in-Some-last.last.now in
    let has : Contains c.args.before.now last
    = contains_at c.args.before.now _ last (sym c.in-Some-last.ensures.value) in
    c.requires.lines last (Contains-append_left c.args.before.now (c.args.step ∷ []) last has)

pub rule_between-requires-clause-to : goal.rule_between-requires-clause-to
rule_between-requires-clause-to g c = c.requires.lines c.args.step (has_first c.args.before.now c.args.step [])
