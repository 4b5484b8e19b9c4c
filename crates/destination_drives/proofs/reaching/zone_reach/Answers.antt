use Rattle.destination_drives.proofs.ZoneDrives.{zone_found_if}
use Rattle.destination_drives.proofs.reaching.zone_reach.Goals as goal

pub returns : goal.returns
returns g c =
    let M = g.M.World.objects c.args.world.now in
    let P = g.P.Profile.rules c.args.profile.now in
    let a = c.args.a in
    let b = c.args.b in
    zone_found_if M P a b (c.searched_drives.ensures.within M a b) (c.searched_drives.ensures.along M a b)
    (c.drives_over.ensures M a b) c.reach_in_phases.result c.reach_in_phases.ensures
