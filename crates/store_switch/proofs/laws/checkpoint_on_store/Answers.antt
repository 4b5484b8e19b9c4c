use Rattle.store_switch.proofs.CheckpointedStores.{checkpoint_left, checkpoint_intact, checkpoint_small}
use Rattle.store_switch.proofs.laws.checkpoint_on_store.Goals as goal

pub returns-clause-stopped : goal.returns-clause-stopped
returns-clause-stopped c old new profile h events result w v on =
    checkpoint_left old new profile h events w v on result

pub returns-clause-intact : goal.returns-clause-intact
returns-clause-intact c old new profile h events result w v on =
    checkpoint_intact old new profile h events w v on result

pub returns-clause-ok : goal.returns-clause-ok
returns-clause-ok c old new profile h events x w v on goes = (goes h on).ok

pub returns-clause-small : goal.returns-clause-small
returns-clause-small c old new profile h events x w v before now on =
    checkpoint_small old new profile h events w v on x before now
