use Rattle.sequence_journal.proofs.IntactFiles.{intact_front}
use Rattle.sequence_journal.proofs.laws.intact_fronts.Goals as goal

pub returns : goal.returns
returns c = intact_front
