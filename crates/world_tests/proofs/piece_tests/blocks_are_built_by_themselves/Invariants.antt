use Rattle.world_tests.proofs.piece_tests.blocks_are_built_by_themselves.Given as goal

-- the ledger that was just made
abbrev pub ghosts-block_counts : goal.ghosts-block_counts
ghosts-block_counts g a = record { name = a.blank.name; parts = a.blank.parts }
