use Rattle.std.proofs.Common.{◌≡◌, ◌++◌, length}
use Rattle.std.specs.Prelude.{filter_map}
use Rattle.back_references.proofs.HighwayLists.{in_event}
use Rattle.back_references.proofs.highways.highways_among.Given as goal

-- with those that are left the ways are what they are with all
abbrev pub invariant-loop-entry : goal.invariant-loop-entry
invariant-loop-entry l = l.ways.items ++ filter_map in_event l.rest ≡ filter_map in_event l.fn.entries

abbrev pub decreases-loop-entry : goal.decreases-loop-entry
decreases-loop-entry l = length l.rest
