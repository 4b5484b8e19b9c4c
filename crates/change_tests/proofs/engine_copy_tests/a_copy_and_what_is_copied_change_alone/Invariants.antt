use Rattle.change_tests.proofs.engine_copy_tests.a_copy_and_what_is_copied_change_alone.Given as goal

-- the ledger that was just made
abbrev pub ghosts-copies_change_alone : goal.ghosts-copies_change_alone
ghosts-copies_change_alone g a = record { name = a.blank.name; parts = a.blank.parts }
