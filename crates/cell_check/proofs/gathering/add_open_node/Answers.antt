use Rattle.road_base.specs.declared.ids.Key.TheVariants.{Node as NodeKey}
use Rattle.cell_check.proofs.OpenedKeys.{adds_if}
use Rattle.cell_check.proofs.gathering.add_open_node.Goals as goal

pub returns-clause-open : goal.returns-clause-open
returns-clause-open g c =
    adds_if (g.M.World.objects c.args.world.now) c.args.area.now c.is_located_in-is_closed.result (NodeKey c.args.node)
    c.args.starts.now.items c.add_if.new.list.items c.is_located_in-is_closed.ensures c.in_ok-add_if.ensures
