use Rattle.cells.proofs.RangesJoined.{merged_in_ranges}
use Rattle.cells.proofs.laws.merged_in_ranges.Goals as goal

pub returns : goal.returns
returns c graphs ranges out are joined = merged_in_ranges c.one_front.ensures graphs ranges are out joined
