use Rattle.osmroad.proofs.store_tests.a_checkpoint_goes_into_the_other_file.Given as goal

-- the ledger that was just made
abbrev pub ghosts-ended : goal.ghosts-ended
ghosts-ended g a = record { name = a.blank.name; parts = a.blank.parts }
