use Rattle.cell_plan.specs.Grids.{width}
use Rattle.cell_plan.proofs.division.+divide.Given as goal

abbrev pub decreases-divide : goal.decreases-divide
decreases-divide l = width l.square
