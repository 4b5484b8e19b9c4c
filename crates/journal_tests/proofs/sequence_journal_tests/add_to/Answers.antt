use Rattle.std.proofs.Common.{ap}
use Rattle.journal_tests.proofs.sequence_journal_tests.add_to.Goals as goal

pub append-requires : goal.append-requires
append-requires c = λ not_closed. (c.in_ok-loaded.ensures.told.answer.history, c.in_ok-loaded.ensures.told.answer.at)
