use Rattle.std.proofs.Common.{◌↔◌, IsTrue, map, take}
use Rattle.road_base.specs.declared.ids.Key.TheVariants.{Node as NodeKey}
use Rattle.cell_check.specs.Closing.{AddsOpen, HasNodeIn}
use Rattle.cell_check.proofs.gathering.add_open_nodes.Given as goal

-- those so far that aren't closed were added, and it is known whether one is
abbrev pub invariant-loop-node : goal.invariant-loop-node
invariant-loop-node g l = record {
  opened : AddsOpen (g.M.World.objects l.world) l.area (map (λ n. NodeKey n) (take l.node-index l.nodes))
      l.fn.starts.items l.starts.items;
  known : IsTrue l.has_closed ↔ HasNodeIn (g.M.World.objects l.world) l.area (take l.node-index l.nodes);
}
