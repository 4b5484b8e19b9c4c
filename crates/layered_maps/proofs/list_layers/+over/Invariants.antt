use Rattle.std.proofs.Common.{length}
use Rattle.layered_maps.proofs.list_layers.+over.Given as goal

abbrev pub decreases-over : goal.decreases-over
decreases-over g l = length l.runs.now
