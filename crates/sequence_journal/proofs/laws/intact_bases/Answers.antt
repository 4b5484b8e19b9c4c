use Rattle.sequence_journal.proofs.IntactFiles.{intact_base}
use Rattle.sequence_journal.proofs.laws.intact_bases.Goals as goal

pub returns : goal.returns
returns c = intact_base
