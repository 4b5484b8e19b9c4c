-- A step that may be driven is apart, or goes back where it may not turn, or goes on at a shut node, or passes.
use Rattle.std.proofs.Common.{Some, sym, ap, ◌∙◌}
use Rattle.std.proofs.lemmas.Bool.{false≢true}
use Rattle.road_model.specs.Driving.{shut}
use Rattle.drive_judging.proofs.JudgedSteps.{breaks_apart, breaks_back, breaks_on, same_node, other_node, both_some}
use Rattle.drive_judging.proofs.JudgedSteps.{begins_nowhere, ends_nowhere, goes_back, goes_elsewhere, shut_stops}
use Rattle.drive_judging.proofs.JudgedSteps.{open_passes}
use Rattle.drive_judging.proofs.step_rules.rule_between.Goals as goal

pub returns-in_default-clause-some : goal.returns-in_default-clause-some
returns-in_default-clause-some g c before behind =
    let M = g.M.World.objects c.args.network.now.world.now in
    let P = g.P.Profile.rules c.args.network.now.profile in
    breaks_apart M P before c.args.last c.args.step c.requires.drives behind
    (λ v m. ends_nowhere M c.args.last (c.in_default.ensures.none M c.requires.from) v m.from)

pub returns-in_default-ends_in-clause-some : goal.returns-in_default-ends_in-clause-some
returns-in_default-ends_in-clause-some g c before behind =
    let M = g.M.World.objects c.args.network.now.world.now in
    let P = g.P.Profile.rules c.args.network.now.profile in
    breaks_apart M P before c.args.last c.args.step c.requires.drives behind
    (λ v m. begins_nowhere M c.args.step (c.in_default-ends_in.ensures.none M c.requires.to) v m.to)

pub returns-then-ne-clause-some : goal.returns-then-ne-clause-some
returns-then-ne-clause-some g c before behind =
    let M = g.M.World.objects c.args.network.now.world.now in
    let P = g.P.Profile.rules c.args.network.now.profile in
    let from = c.in-Some.ensures.some M c.requires.from in
    let to = c.in-Some-ends_in.ensures.some M c.requires.to in
    breaks_apart M P before c.args.last c.args.step c.requires.drives behind
    (λ v m. other_node c.in-Some.at c.in-Some-ends_in.node (sym c.ne.ensures ∙ c.if-ne.true)
    (both_some _ _ c.in-Some.at c.in-Some-ends_in.node v from.1 to.0 m.from m.to))

pub returns-else-turns_back-clause-some : goal.returns-else-turns_back-clause-some
returns-else-turns_back-clause-some g c before behind =
    let M = g.M.World.objects c.args.network.now.world.now in
    let P = g.P.Profile.rules c.args.network.now.profile in
    let from = c.in-Some.ensures.some M c.requires.from in
    let to = c.in-Some-ends_in.ensures.some M c.requires.to in
    let same = same_node c.in-Some.at c.in-Some-ends_in.node (sym c.ne.ensures ∙ c.if-ne.false) in
    breaks_back M P before c.args.last c.args.step c.requires.drives behind c.in-Some-ends_in.node
    (record { from = from.1 ∙ ap Some same; to = to.0 })
    (λ p. false≢true (sym c.if-turns_back.false ∙ c.turns_back.ensures.1 p))
    (goes_back M c.args.last c.args.step c.in-Some.from c.in-Some-ends_in.to from.0 to.1
    (sym c.eq.ensures ∙ c.if-eq.true))

pub returns-then-of-clause-some : goal.returns-then-of-clause-some
returns-then-of-clause-some g c before behind =
    let M = g.M.World.objects c.args.network.now.world.now in
    let P = g.P.Profile.rules c.args.network.now.profile in
    let from = c.in-Some.ensures.some M c.requires.from in
    let to = c.in-Some-ends_in.ensures.some M c.requires.to in
    let same = same_node c.in-Some.at c.in-Some-ends_in.node (sym c.ne.ensures ∙ c.if-ne.false) in
    let shut_there = c.of.ensures.rules.shut_is ∙ ap (shut M P) c.of.ensures.node in
    let on = goes_elsewhere M c.args.last c.args.step c.in-Some.from c.in-Some-ends_in.to from.0 to.1
    (sym c.eq.ensures ∙ c.if-eq.false) in
    breaks_on M P before c.args.last c.args.step c.requires.drives behind c.in-Some-ends_in.node
    (record { from = from.1 ∙ ap Some same; to = to.0 })
    (shut_stops M P c.args.last c.args.step c.in-Some-ends_in.node to.0 on (sym shut_there ∙ c.if-of.true)) on

pub returns-else-of-clause-none : goal.returns-else-of-clause-none
returns-else-of-clause-none g c =
    let M = g.M.World.objects c.args.network.now.world.now in
    let P = g.P.Profile.rules c.args.network.now.profile in
    let from = c.in-Some.ensures.some M c.requires.from in
    let to = c.in-Some-ends_in.ensures.some M c.requires.to in
    let same = same_node c.in-Some.at c.in-Some-ends_in.node (sym c.ne.ensures ∙ c.if-ne.false) in
    let shut_there = c.of.ensures.rules.shut_is ∙ ap (shut M P) c.of.ensures.node in
    let on = goes_elsewhere M c.args.last c.args.step c.in-Some.from c.in-Some-ends_in.to from.0 to.1
    (sym c.eq.ensures ∙ c.if-eq.false) in
    open_passes M P c.args.last c.args.step c.in-Some-ends_in.node (from.1 ∙ ap Some same) to.0 on
    (sym shut_there ∙ c.if-of.false)

pub turns_back-requires-clause-leaves : goal.turns_back-requires-clause-leaves
turns_back-requires-clause-leaves g c = record {
  drives = c.requires.drives;
  tail = (c.in-Some-ends_in.ensures.some (g.M.World.objects c.args.network.now.world.now) c.requires.to).0;
}

pub turns_back-requires-clause-meets : goal.turns_back-requires-clause-meets
turns_back-requires-clause-meets g c =
    let same = same_node c.in-Some.at c.in-Some-ends_in.node (sym c.ne.ensures ∙ c.if-ne.false) in
    (c.in-Some.ensures.some (g.M.World.objects c.args.network.now.world.now) c.requires.from).1 ∙ ap Some same

pub turns_back-requires-clause-back : goal.turns_back-requires-clause-back
turns_back-requires-clause-back g c =
    let M = g.M.World.objects c.args.network.now.world.now in
    let from = c.in-Some.ensures.some M c.requires.from in
    let to = c.in-Some-ends_in.ensures.some M c.requires.to in
    goes_back M c.args.last c.args.step c.in-Some.from c.in-Some-ends_in.to from.0 to.1
    (sym c.eq.ensures ∙ c.if-eq.true)
