use Rattle.map_cells.proofs.NestedCells.{nested}
use Rattle.map_cells.proofs.laws.nested.Goals as goal

pub returns : goal.returns
returns c M N C outer inner first second within = nested M N C outer inner first second within
