use Rattle.std.proofs.lemmas.Result.{IfOk-weaker}
use Rattle.context_search.specs.Phases.{one_phase}
use Rattle.context_search.specs.PhaseWalks.{IsFoundIn}
use Rattle.context_search.specs.Reaching.{IsFound}
use Rattle.context_search.proofs.OnePhaseDrives.{found_in_one}
use Rattle.context_search.proofs.reaching.reach.Goals as goal

pub returns : goal.returns
returns g c =
    let M = g.M.World.objects c.args.world.now in
    let P = g.P.Profile.rules c.args.profile.now in
    let a = c.args.a in
    let b = c.args.b in
    IfOk-weaker c.reach_in_phases.result (IsFoundIn M P one_phase a b) (IsFound M P a b)
    (found_in_one M P a b (c.searched_drives.ensures.within M a b) (c.searched_drives.ensures.along M a b)
    (c.drives_over.ensures M a b)) c.reach_in_phases.ensures
