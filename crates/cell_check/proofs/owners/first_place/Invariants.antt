use Rattle.std.proofs.Common.{◌≡◌, drop}
use Rattle.map_cells.specs.Owners.{first_place}
use Rattle.cell_check.proofs.owners.first_place.Given as goal

-- none of the nodes so far is located
abbrev pub invariant-loop-node : goal.invariant-loop-node
invariant-loop-node g l =
    first_place (g.M.World.objects l.world) l.nodes
    ≡ first_place (g.M.World.objects l.world) (drop l.node-index l.nodes)
