use Rattle.sequence_journal.proofs.Damage.{stands_on_base}
use Rattle.sequence_journal.proofs.laws.base_of_history.Goals as goal

pub returns : goal.returns
returns c = stands_on_base
