use Rattle.road_model.proofs.UniqueEntries.{one_piece, one_entry}
use Rattle.road_model.proofs.laws.one_name.Goals as goal

pub returns-clause-pieces : goal.returns-clause-pieces
returns-clause-pieces g c = λ M. one_piece M _

pub returns-clause-entries : goal.returns-clause-entries
returns-clause-entries g c = λ M. one_entry M _
