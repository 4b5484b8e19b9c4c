use Rattle.std.proofs.Common.{length}
use Rattle.layered_maps.proofs.changes.+least_of.Given as goal

abbrev pub decreases-least_of : goal.decreases-least_of
decreases-least_of g l = length l.runs.now
