use Rattle.osmroad.proofs.store_tests.a_change_is_written_behind_its_gate.Given as goal

-- the ledger that was just made
abbrev pub ghosts-ended : goal.ghosts-ended
ghosts-ended g a = record { name = a.blank.name; parts = a.blank.parts }
