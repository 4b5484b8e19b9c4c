use Rattle.std.proofs.Common.{take}
use Rattle.drive_judging.specs.DeadEnds.{AreNoted, StepsOf}
use Rattle.drive_judging.proofs.dead_ends.leaving_over.Given as goal

-- the steps of the ways so far are added
abbrev pub invariant-loop-way : goal.invariant-loop-way
invariant-loop-way g l = AreNoted l.ways (StepsOf (take l.way-index l.ways)) l.known
    (g.M.World.objects l.network.world.now) (g.P.Profile.rules l.network.profile)
