use Rattle.map_cells.proofs.WayOwners.{one_owner}
use Rattle.map_cells.proofs.laws.owners.Goals as goal

pub returns : goal.returns
returns g c M cells b are road = one_owner M (g.P.Profile.rules c.args.profile.now)
    (c.roads_refer.ensures.passed M) cells b are road
