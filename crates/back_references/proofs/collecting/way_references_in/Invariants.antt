use Rattle.std.proofs.Common.{◌≡◌, take}
use Rattle.std.specs.List.{flat_map}
use Rattle.back_references.specs.References.{way_references}
use Rattle.back_references.proofs.collecting.way_references_in.Given as goal

abbrev pub invariant-loop-event : goal.invariant-loop-event
invariant-loop-event l = l.pairs.items ≡ flat_map way_references (take l.event-index l.events)
