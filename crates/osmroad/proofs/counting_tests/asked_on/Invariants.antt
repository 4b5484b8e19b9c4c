use Rattle.osmroad.proofs.counting_tests.asked_on.Given as goal

-- the ledger that was just made
abbrev pub ghosts-asked_in : goal.ghosts-asked_in
ghosts-asked_in a = record { name = a.blank.name; parts = a.blank.parts }
