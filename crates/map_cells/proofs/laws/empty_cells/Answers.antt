use Rattle.map_cells.proofs.EmptyCells.{nodes_covered}
use Rattle.map_cells.proofs.laws.empty_cells.Goals as goal

pub returns : goal.returns
returns c M cells has_node cover some = nodes_covered M cells has_node cover some
