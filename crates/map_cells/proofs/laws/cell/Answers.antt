use Rattle.map_cells.proofs.CellReach.{passes_untouched}
use Rattle.map_cells.proofs.laws.cell.Goals as goal

pub returns-clause-untouched : goal.returns-clause-untouched
returns-clause-untouched g c M C area w cell passes = passes_untouched M C area cell w passes

pub returns-clause-block : goal.returns-clause-block
returns-clause-block g c M C area w b cell passes =
    c.blocks_stay.ensures M C w b (passes_untouched M C area cell w passes)
