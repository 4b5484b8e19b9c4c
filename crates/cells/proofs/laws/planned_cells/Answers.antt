use Rattle.cells.proofs.WholePlans.{planned_cells}
use Rattle.cells.proofs.laws.planned_cells.Goals as goal

pub returns : goal.returns
returns c M rule text lines gives holds =
    planned_cells c.empty_cells.ensures c.applied_stands.ensures M rule text lines holds gives
