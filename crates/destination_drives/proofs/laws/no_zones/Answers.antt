use Rattle.destination_drives.proofs.NoZones.{all_legal}
use Rattle.destination_drives.proofs.laws.no_zones.Goals as goal

pub returns : goal.returns
returns g c none M d = all_legal M _ none d
