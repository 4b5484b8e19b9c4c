use Rattle.store_switch.proofs.ChangedStores.{change_left, change_done, change_small}
use Rattle.store_switch.proofs.laws.change_on_store.Goals as goal

pub returns-clause-stopped : goal.returns-clause-stopped
returns-clause-stopped c old new h change result w v on = change_left old new h change w v on result

pub returns-clause-ok : goal.returns-clause-ok
returns-clause-ok c old new h seq change x w v before now on = change_done old new h change w v on seq x before now

pub returns-clause-small : goal.returns-clause-small
returns-clause-small c old new h seq change x w v before now on =
    change_small old new h change w v on seq x before now
