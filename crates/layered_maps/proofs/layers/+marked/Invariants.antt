use Rattle.std.proofs.Common.{length}
use Rattle.layered_maps.proofs.layers.+marked.Given as goal

abbrev pub decreases-marked : goal.decreases-marked
decreases-marked g l = length l.runs.now
