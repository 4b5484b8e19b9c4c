use Rattle.store_switch.proofs.IntactStores.{load_leaves_history, load_leaves_nothing, load_leaves_intact}
use Rattle.store_switch.proofs.laws.stopped_load.Goals as goal

pub returns-clause-history : goal.returns-clause-history
returns-clause-history c result w v = load_leaves_history result w v c.one_history.ensures

pub returns-clause-nothing : goal.returns-clause-nothing
returns-clause-nothing c = load_leaves_nothing

pub returns-clause-intact : goal.returns-clause-intact
returns-clause-intact c = load_leaves_intact
