use Rattle.pinned_readers.proofs.tests.readers_keep_what_they_pinned.Given as goal

-- the ledger that was just made
abbrev pub ghosts-acts_differ : goal.ghosts-acts_differ
ghosts-acts_differ g a = record { name = a.blank.name; parts = a.blank.parts }
