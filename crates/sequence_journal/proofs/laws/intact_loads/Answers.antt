use Rattle.sequence_journal.proofs.IntactFiles.{loads_intact, loads_undamaged}
use Rattle.sequence_journal.proofs.laws.intact_loads.Goals as goal

pub returns-clause-stopped : goal.returns-clause-stopped
returns-clause-stopped c = loads_intact

pub returns-clause-undamaged : goal.returns-clause-undamaged
returns-clause-undamaged c = loads_undamaged c.no_damage.ensures
