use Rattle.object_tests.proofs.road_base_tests.steps_are_counted.Given as goal

-- the ledger that was just made
abbrev pub ghosts-count_two : goal.ghosts-count_two
ghosts-count_two g a = record { name = a.blank.name; parts = a.blank.parts }
