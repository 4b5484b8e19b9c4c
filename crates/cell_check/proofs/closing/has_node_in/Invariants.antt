use Rattle.std.proofs.Common.{take}
use Rattle.cell_check.specs.Closing.{HasNodeIn}
use Rattle.cell_check.proofs.closing.has_node_in.Given as goal

-- none of the nodes so far is located in the area
abbrev pub invariant-loop-node : goal.invariant-loop-node
invariant-loop-node g l = HasNodeIn (g.M.World.objects l.world) l.area (take l.node-index l.nodes) → ⊥
