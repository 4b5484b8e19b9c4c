use Rattle.pinned_readers.proofs.tests.one_follower_is_held_for_all_readers_at_a_number.Given as goal

-- the ledger that was just made
abbrev pub ghosts-held : goal.ghosts-held
ghosts-held g a = record { name = a.blank.name; parts = a.blank.parts }
