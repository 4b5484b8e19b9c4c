use Rattle.store_switch.proofs.IntactStores.{store_once}
use Rattle.store_switch.proofs.laws.one_store.Goals as goal

pub returns : goal.returns
returns c = store_once c.one_history.ensures
