use Rattle.osmroad.proofs.limit_tests.check_long.Given as goal

-- the ledger that was just made
abbrev pub ghosts-ended : goal.ghosts-ended
ghosts-ended g a = record { name = a.blank.name; parts = a.blank.parts }
