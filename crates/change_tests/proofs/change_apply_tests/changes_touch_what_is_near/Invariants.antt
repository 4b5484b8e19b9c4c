use Rattle.change_tests.proofs.change_apply_tests.changes_touch_what_is_near.Given as goal

abbrev pub ghosts-followed : goal.ghosts-followed
ghosts-followed g a = record { name = a.blank.name; parts = a.blank.parts }
