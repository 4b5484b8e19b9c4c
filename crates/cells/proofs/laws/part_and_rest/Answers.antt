use Rattle.cells.proofs.WholeReports.{part_and_rest}
use Rattle.cells.proofs.laws.part_and_rest.Goals as goal

pub returns : goal.returns
returns c cut profile text out gives = part_and_rest cut profile text out gives
