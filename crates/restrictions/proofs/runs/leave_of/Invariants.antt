use Rattle.std.proofs.Common.{◌≡◌, length, Some}
use Rattle.restrictions.specs.Runs.{allows, leave_of}
use Rattle.restrictions.proofs.runs.leave_of.Given as goal

-- what is left leads from here to where all lead
abbrev pub invariant-loop-rest : goal.invariant-loop-rest
invariant-loop-rest g l =
    let M = g.M.World.objects l.network.world.now in
    let allowed = allows M (g.P.Profile.rules l.network.profile) l.allowed in
    leave_of M allowed l.ways (Some l.fn.enter) ≡ leave_of M allowed l.rest (Some l.at)

abbrev pub decreases-loop-rest : goal.decreases-loop-rest
decreases-loop-rest g l = length l.rest
