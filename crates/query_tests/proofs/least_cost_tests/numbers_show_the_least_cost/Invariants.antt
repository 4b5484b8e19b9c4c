use Rattle.query_tests.proofs.least_cost_tests.numbers_show_the_least_cost.Given as goal

-- the ledger that was just made
abbrev pub ghosts-is_as_worked_on : goal.ghosts-is_as_worked_on
ghosts-is_as_worked_on g a = record { name = a.blank.name; parts = a.blank.parts }
