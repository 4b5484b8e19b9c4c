use Rattle.std.proofs.Common.{◌≡◌, take}
use Rattle.std.specs.List.{flat_map}
use Rattle.back_references.specs.References.{node_rules_at}
use Rattle.back_references.proofs.collecting.node_rules_at.Given as goal

abbrev pub invariant-loop-key : goal.invariant-loop-key
invariant-loop-key l = l.pairs.items ≡ flat_map (node_rules_at l.objects) (take l.key-index l.keys)
