use Rattle.osmroad.proofs.counting_tests.shown.Given as goal

-- the ledger that was just made
abbrev pub ghosts-compiled : goal.ghosts-compiled
ghosts-compiled a = record { name = a.blank.name; parts = a.blank.parts }
