use Rattle.store_switch.proofs.EntriesLeft.{entries_leave, checkpoint_same, checkpoint_raised, checkpoint_left_as_read}
use Rattle.store_switch.proofs.EntriesLeft.{checkpoint_left_raised}
use Rattle.store_switch.proofs.laws.checkpoint_for_reader.Goals as goal

pub returns-clause-entries : goal.returns-clause-entries
returns-clause-entries c = entries_leave c.key_order.ensures.ties

pub returns-clause-same : goal.returns-clause-same
returns-clause-same c = checkpoint_same c.key_order.ensures.ties c.history_objects.ensures.same

pub returns-clause-raised : goal.returns-clause-raised
returns-clause-raised c = checkpoint_raised c.key_order.ensures.ties c.history_objects.ensures.same

pub returns-clause-stopped : goal.returns-clause-stopped
returns-clause-stopped c = checkpoint_left_as_read c.key_order.ensures.ties c.history_objects.ensures.same

pub returns-clause-stopped_raise : goal.returns-clause-stopped_raise
returns-clause-stopped_raise c = checkpoint_left_raised c.key_order.ensures.ties c.history_objects.ensures.same
