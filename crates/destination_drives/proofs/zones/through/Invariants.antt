use Rattle.destination_drives.specs.Zones.{is_zone_step}
use Rattle.destination_drives.proofs.ThroughSteps.{HasPhase}
use Rattle.destination_drives.proofs.zones.through.Given as goal

-- the phase is that of the steps so far
abbrev pub invariant-loop-at : goal.invariant-loop-at
invariant-loop-at g l =
    HasPhase (is_zone_step (g.M.World.objects l.world) (g.P.Profile.rules l.profile)) l.drive l.at l.phase
