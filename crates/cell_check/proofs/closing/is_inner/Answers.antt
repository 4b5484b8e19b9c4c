use Rattle.cell_check.proofs.ClosedKeys.{inner_where}
use Rattle.cell_check.proofs.closing.is_inner.Goals as goal

pub returns-in-Some : goal.returns-in-Some
returns-in-Some g c =
    inner_where (g.M.World.objects c.args.world.now) c.args.area.now c.args.way c.in-Some.body.now
    c.items.result.now c.has_node_in.result c.in-Some.ensures c.items.ensures.items c.has_node_in.ensures
