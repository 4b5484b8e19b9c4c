use Rattle.store_switch.proofs.IntactStores.{intact_undamaged, intact_loads}
use Rattle.store_switch.proofs.laws.no_damage_in_store.Goals as goal

pub returns-clause-live : goal.returns-clause-live
returns-clause-live c = intact_undamaged c.no_damage.ensures

pub returns-clause-loading : goal.returns-clause-loading
returns-clause-loading c = intact_loads c.no_damage.ensures
