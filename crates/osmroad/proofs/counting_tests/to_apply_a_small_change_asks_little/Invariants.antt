use Rattle.osmroad.proofs.counting_tests.to_apply_a_small_change_asks_little.Given as goal

-- the ledger that was just made
abbrev pub ghosts-asked_for_a_street : goal.ghosts-asked_for_a_street
ghosts-asked_for_a_street g a = record { name = a.blank.name; parts = a.blank.parts }
