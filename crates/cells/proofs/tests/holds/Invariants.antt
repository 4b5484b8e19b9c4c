use Rattle.cells.proofs.tests.holds.Given as goal

-- the ledger that was just made
abbrev pub ghosts-ended : goal.ghosts-ended
ghosts-ended a = record { name = a.blank.name; parts = a.blank.parts }
