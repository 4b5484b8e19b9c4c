use Rattle.std.proofs.Common.{◌-◌, ◌≤◌, length}
use Rattle.layered_maps.proofs.places.first_from.Given as goal

abbrev pub invariant-loop-low : goal.invariant-loop-low
invariant-loop-low g l = l.high ≤ length l.run

abbrev pub decreases-loop-low : goal.decreases-loop-low
decreases-loop-low g l = l.high - l.low
