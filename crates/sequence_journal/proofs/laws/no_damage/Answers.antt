use Rattle.sequence_journal.proofs.Damage.{intact_undamaged}
use Rattle.sequence_journal.proofs.laws.no_damage.Goals as goal

pub returns : goal.returns
returns c = intact_undamaged c.one_list.ensures
