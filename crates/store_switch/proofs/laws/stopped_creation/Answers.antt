use Rattle.store_switch.proofs.IntactStores.{creation_leaves_nothing, creation_leaves_intact}
use Rattle.store_switch.proofs.laws.stopped_creation.Goals as goal

pub returns-clause-nothing : goal.returns-clause-nothing
returns-clause-nothing c = creation_leaves_nothing

pub returns-clause-intact : goal.returns-clause-intact
returns-clause-intact c = creation_leaves_intact
