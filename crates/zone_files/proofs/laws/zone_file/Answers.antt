use Rattle.zone_files.proofs.laws.zone_file.Goals as goal

pub returns : goal.returns
returns g c = λ M bytes blocks listed file.
    record { blocks = blocks; file = file; walks = c.zone_file_walks.ensures M blocks listed }
