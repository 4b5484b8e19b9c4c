use Rattle.osmroad.proofs.failure_tests.check_read_on.Given as goal

-- the ledger that was just made
abbrev pub ghosts-ended : goal.ghosts-ended
ghosts-ended g a = record { name = a.blank.name; parts = a.blank.parts }
