use Rattle.journal_tests.proofs.checkpoint_tests.add.Goals as goal

pub append-requires : goal.append-requires
append-requires c = λ not_closed.
    (c.in_ok-loaded.ensures.told.answer.history, c.in_ok-loaded.ensures.told.answer.ready.at)
