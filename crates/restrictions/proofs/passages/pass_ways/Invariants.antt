use Rattle.std.proofs.Common.{◌≡◌, ◌++◌, length, Some}
use Rattle.road_model.specs.Driving.{is_open}
use Rattle.restrictions.specs.Runs.{leave_of, steps_of}
use Rattle.restrictions.proofs.passages.pass_ways.Given as goal

-- what is left leads from here to where all lead, and what it spells is lacking
abbrev pub invariant-loop-rest : goal.invariant-loop-rest
invariant-loop-rest g l =
    let M = g.M.World.objects l.network.world.now in
    let allowed = is_open M (g.P.Profile.rules l.network.profile) in
    record {
      leave : leave_of M allowed l.fn.ways (Some l.fn.enter) ≡ leave_of M allowed l.rest (Some l.at);
      steps : steps_of M allowed l.fn.ways (Some l.fn.enter) ≡ l.steps.items ++ steps_of M allowed l.rest (Some l.at);
    }

abbrev pub decreases-loop-rest : goal.decreases-loop-rest
decreases-loop-rest g l = length l.rest
