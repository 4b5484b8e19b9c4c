use Rattle.std.proofs.Common.{length}
use Rattle.layered_maps.proofs.layers.+found.Given as goal

abbrev pub decreases-found : goal.decreases-found
decreases-found g l = length l.runs.now
