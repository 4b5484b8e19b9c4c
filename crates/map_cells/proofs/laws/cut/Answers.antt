use Rattle.map_cells.proofs.PartBlocks.{cut_untouched}
use Rattle.map_cells.proofs.laws.cut.Goals as goal

pub returns : goal.returns
returns g c M C w b cut = c.blocks_stay.ensures M C w b (cut_untouched M C w cut)
