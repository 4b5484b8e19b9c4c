use Rattle.std.proofs.Common.{◌≡◌, ◌++◌, map, take}
use Rattle.back_references.proofs.collecting.add_nodes.Given as goal

abbrev pub invariant-loop-node : goal.invariant-loop-node
invariant-loop-node l = l.pairs.items ≡ l.initial.pairs.items ++ map (λ n. (n, l.way)) (take l.node-index l.nodes)
