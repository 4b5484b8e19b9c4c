use Rattle.zone_files.proofs.ZoneFiles.{zone_file_walks}
use Rattle.zone_files.proofs.laws.zone_file_walks.Goals as goal

pub returns : goal.returns
returns g c = λ M blocks listed.
    zone_file_walks M (g.P.Profile.rules c.args.profile.now) blocks listed (c.file_walks.ensures M blocks listed)
    (c.zone_walk_law.ensures M)
