use Rattle.cell_check.proofs.ClosedKeys.{located_where}
use Rattle.cell_check.proofs.closing.is_located_in.Goals as goal

pub returns-in-Some : goal.returns-in-Some
returns-in-Some g c =
    located_where (g.M.World.objects c.args.world.now) c.args.area.now c.args.node c.in-Some.place c.holds.result
    c.holds.ensures c.in-Some.ensures
