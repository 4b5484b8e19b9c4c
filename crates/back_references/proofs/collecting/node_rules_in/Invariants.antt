use Rattle.std.proofs.Common.{◌≡◌, take}
use Rattle.std.specs.List.{flat_map}
use Rattle.back_references.specs.References.{node_rules}
use Rattle.back_references.proofs.collecting.node_rules_in.Given as goal

abbrev pub invariant-loop-event : goal.invariant-loop-event
invariant-loop-event l = l.pairs.items ≡ flat_map node_rules (take l.event-index l.events)
