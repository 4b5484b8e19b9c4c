use Rattle.journal_tests.proofs.checkpoint_tests.raise.Goals as goal

pub checkpoint-requires-clause-on_store : goal.checkpoint-requires-clause-on_store
checkpoint-requires-clause-on_store c = λ not_closed.
    (c.in_ok-loaded.ensures.told.answer.history, c.in_ok-loaded.ensures.told.answer.ready)
