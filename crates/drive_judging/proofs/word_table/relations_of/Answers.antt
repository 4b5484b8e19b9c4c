-- The restrictions of one way more are there, and all at the end.
use Rattle.std.proofs.Common.{◌≡◌, ◌↔◌, ◌+◌, List, sym, subst, arith, Contains, take}
use Rattle.std.proofs.lemmas.List.{take_all}
use Rattle.road_base.specs.declared.ids.WayId.{WayId}
use Rattle.road_base.specs.declared.ids.RelationId.{RelationId}
use Rattle.drive_judging.specs.DriveWords.{IsMemberOf}
use Rattle.drive_judging.proofs.WordsGathered.{relations_more}
use Rattle.drive_judging.proofs.word_table.relations_of.Goals as goal

pub loop-way-preserved : goal.loop-way-preserved
loop-way-preserved g c r =
    let M = g.M.World.objects c.args.world.now in
    subst (λ (l : List RelationId). Contains l r ↔ IsMemberOf M (take (c.loop-way.way-index + 1) c.args.ways.now) r)
    (sym c.in_ok-extend_from_slice.ensures.items)
    (relations_more M c.args.ways.now c.loop-way.way-index _ c.rules_of_way.result.now c.loop-way.relations.items
    c.loop-way-test.true c.rules_of_way.ensures c.loop-way.invariant r)

pub returns : goal.returns
returns g c r =
    let M = g.M.World.objects c.args.world.now in
    let all : take c.loop-way.way-index c.args.ways.now ≡ c.args.ways.now =
    take_all c.loop-way.way-index c.args.ways.now (let past = c.loop-way-test.false in omega arith) in
    let are = c.loop-way.invariant r in
    let kept = c.leave_once.ensures.exactly r in (
      λ h. subst (λ (l : List WayId). IsMemberOf M l r) all (are.0 (kept.0 h)),
      λ h. kept.1 (are.1 (subst (λ (l : List WayId). IsMemberOf M l r) (sym all) h)),
    )
