use Rattle.query_tests.proofs.drive_queries_tests.lines_are_answered.Given as goal

abbrev pub ghosts-first_other_on : goal.ghosts-first_other_on
ghosts-first_other_on g a = record { name = a.blank.name; parts = a.blank.parts }
