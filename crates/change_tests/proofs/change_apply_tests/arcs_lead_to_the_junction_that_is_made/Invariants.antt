use Rattle.change_tests.proofs.change_apply_tests.arcs_lead_to_the_junction_that_is_made.Given as goal

-- the ledger that was just made
abbrev pub ghosts-junction_is_made : goal.ghosts-junction_is_made
ghosts-junction_is_made g a = record { name = a.blank.name; parts = a.blank.parts }
