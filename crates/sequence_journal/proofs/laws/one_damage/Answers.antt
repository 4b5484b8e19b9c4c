use Rattle.sequence_journal.proofs.Damage.{damaged_once}
use Rattle.sequence_journal.proofs.laws.one_damage.Goals as goal

pub returns : goal.returns
returns c = damaged_once c.one_list.ensures
