-- The first steps of the drive have a phase as long as they pass through no zone.
use Rattle.std.proofs.Common.{Some, None, arith}
use Rattle.destination_drives.specs.Zones.{is_zone_step}
use Rattle.destination_drives.proofs.ThroughSteps.{goes_by, phase_goes_on, passes_there, passes_first, passes_nowhere}
use Rattle.destination_drives.proofs.zones.through.Goals as goal

pub returns-in-None-clause-some : goal.returns-in-None-clause-some
returns-in-None-clause-some g c =
    let mark = is_zone_step (g.M.World.objects c.args.world.now) (g.P.Profile.rules c.args.profile.now) in
    passes_there mark c.args.drive.now c.loop-at.at _ c.loop-at.phase c.loop-at-test.true c.loop-at.invariant
    (goes_by c.loop-at.phase c.is_zone_step.result _ c.go.result None c.is_zone_step.ensures c.go.ensures c.in-None.is)

pub returns-in-None-clause-least : goal.returns-in-None-clause-least
returns-in-None-clause-least g c = λ j t.
    let mark = is_zone_step (g.M.World.objects c.args.world.now) (g.P.Profile.rules c.args.profile.now) in
    passes_first mark c.args.drive.now c.loop-at.at c.loop-at.phase c.loop-at.invariant j t

pub loop-at-preserved : goal.loop-at-preserved
loop-at-preserved g c =
    let mark = is_zone_step (g.M.World.objects c.args.world.now) (g.P.Profile.rules c.args.profile.now) in
    phase_goes_on mark c.args.drive.now c.loop-at.at _ c.loop-at.phase c.in-Some.next c.loop-at-test.true
    c.loop-at.invariant
    (goes_by c.loop-at.phase c.is_zone_step.result _ c.go.result (Some c.in-Some.next) c.is_zone_step.ensures
    c.go.ensures
    c.in-Some.is)

pub returns-clause-none : goal.returns-clause-none
returns-clause-none g c = λ t.
    let mark = is_zone_step (g.M.World.objects c.args.world.now) (g.P.Profile.rules c.args.profile.now) in
    let l = c.loop-at-test.false in
    passes_nowhere mark c.args.drive.now c.loop-at.at c.loop-at.phase (omega arith) c.loop-at.invariant t
