use Rattle.std.proofs.Common.{◌≡◌, take}
use Rattle.std.specs.List.{flat_map}
use Rattle.back_references.specs.References.{way_references_at}
use Rattle.back_references.proofs.collecting.way_references_at.Given as goal

abbrev pub invariant-loop-key : goal.invariant-loop-key
invariant-loop-key l = l.pairs.items ≡ flat_map (way_references_at l.objects) (take l.key-index l.keys)
