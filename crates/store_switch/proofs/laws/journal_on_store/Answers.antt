use Rattle.store_switch.proofs.ChangedStores.{journal_stands, journal_left, journal_stays}
use Rattle.store_switch.proofs.laws.journal_on_store.Goals as goal

pub returns-clause-stand : goal.returns-clause-stand
returns-clause-stand c = journal_stands

pub returns-clause-stopped : goal.returns-clause-stopped
returns-clause-stopped c = journal_left

pub returns-clause-stays : goal.returns-clause-stays
returns-clause-stays c = journal_stays
