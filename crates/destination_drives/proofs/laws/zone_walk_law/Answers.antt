use Rattle.destination_drives.proofs.ZoneWalkLaw.{are_zone_walked}
use Rattle.destination_drives.proofs.laws.zone_walk_law.Goals as goal

pub returns : goal.returns
returns g c M = are_zone_walked M _ (c.walk_law.ensures M)
