use Rattle.std.proofs.Common.{[]}
use Rattle.sequence_journal.specs.Basing.{base_alone}
use Rattle.journal_tests.proofs.sequence_journal_tests.write_and_add.Goals as goal

pub write_base-requires-clause-durable : goal.write_base-requires-clause-durable
write_base-requires-clause-durable c = c.in_ok-settle.ensures.told.done

pub append-requires : goal.append-requires
append-requires c = λ not_closed. (
  base_alone 1 5 [],
  (c.in_ok-journal.ensures.told c.in_ok-settle.ensures.told.done).answer.0,
)
