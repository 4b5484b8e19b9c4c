use Rattle.std.proofs.Common.{◌≡◌, ◌++◌, take}
use Rattle.std.specs.List.{flat_map}
use Rattle.back_references.specs.References.{node_pair}
use Rattle.back_references.proofs.collecting.add_member_nodes.Given as goal

abbrev pub invariant-loop-member : goal.invariant-loop-member
invariant-loop-member l = l.pairs.items ≡ l.initial.pairs.items
    ++ flat_map (λ m. node_pair l.rule m.item) (take l.member-index l.members)
