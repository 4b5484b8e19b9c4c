use Rattle.std.proofs.Common.{◌≡◌, ◌++◌, map, take}
use Rattle.way_pieces.proofs.at_nodes.add_items.Given as goal

-- those so far
abbrev pub invariant-loop-item : goal.invariant-loop-item
invariant-loop-item g l = l.list.items ≡ l.fn.list.items ++ map (λ s. s.item) (take l.item-index l.items)
