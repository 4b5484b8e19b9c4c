-- What is found of the step is the first rule that it breaks, and a step of which nothing is found may be driven.
use Rattle.std.proofs.Common.{sym, ◌∙◌}
use Rattle.drive_judging.proofs.JudgedSteps.{breaks_no_step, breaks_tail, breaks_head, closes}
use Rattle.drive_judging.proofs.step_rules.rule_alone.Goals as goal

pub returns-in_default-clause-some : goal.returns-in_default-clause-some
returns-in_default-clause-some g c before =
    let M = g.M.World.objects c.args.network.now.world.now in
    let P = g.P.Profile.rules c.args.network.now.profile in
    breaks_no_step M P before c.args.step (c.in_default.ensures.none M c.requires)

pub returns-then-not-is_located-clause-some : goal.returns-then-not-is_located-clause-some
returns-then-not-is_located-clause-some g c before =
    let M = g.M.World.objects c.args.network.now.world.now in
    let P = g.P.Profile.rules c.args.network.now.profile in
    let ends = c.in-Some.ensures.some M c.requires in
    breaks_tail M P before c.args.step c.in-Some.tail ends.0 (sym c.is_located.ensures ∙ c.if-not-is_located.true)

pub returns-then-not-is_located-2-clause-some : goal.returns-then-not-is_located-2-clause-some
returns-then-not-is_located-2-clause-some g c before =
    let M = g.M.World.objects c.args.network.now.world.now in
    let P = g.P.Profile.rules c.args.network.now.profile in
    let ends = c.in-Some.ensures.some M c.requires in
    breaks_head M P before c.args.step c.in-Some.tail c.in-Some.head ends.0
    (sym c.is_located.ensures ∙ c.if-not-is_located.false) ends.1
    (sym c.is_located-2.ensures ∙ c.if-not-is_located-2.true)

pub returns-clause-some : goal.returns-clause-some
returns-clause-some g c =
    let M = g.M.World.objects c.args.network.now.world.now in
    let P = g.P.Profile.rules c.args.network.now.profile in
    let ends = c.in-Some.ensures.some M c.requires in
    (closes M P c.args.step c.in-Some.tail c.in-Some.head ends.0 ends.1
    (sym c.is_located.ensures ∙ c.if-not-is_located.false)
    (sym c.is_located-2.ensures ∙ c.if-not-is_located-2.false) c.closing_rule.result c.closing_rule.ensures).0

pub returns-clause-none : goal.returns-clause-none
returns-clause-none g c =
    let M = g.M.World.objects c.args.network.now.world.now in
    let P = g.P.Profile.rules c.args.network.now.profile in
    let ends = c.in-Some.ensures.some M c.requires in
    (closes M P c.args.step c.in-Some.tail c.in-Some.head ends.0 ends.1
    (sym c.is_located.ensures ∙ c.if-not-is_located.false)
    (sym c.is_located-2.ensures ∙ c.if-not-is_located-2.false) c.closing_rule.result c.closing_rule.ensures).1
