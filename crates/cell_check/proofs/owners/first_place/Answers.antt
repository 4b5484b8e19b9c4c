use Rattle.std.proofs.Common.{sym}
use Rattle.cell_check.proofs.OwnPlaces.{first_later, first_here, first_none}
use Rattle.cell_check.proofs.owners.first_place.Goals as goal

pub returns-in-Some : goal.returns-in-Some
returns-in-Some g c =
    sym (first_here (g.M.World.objects c.args.world.now) c.args.nodes.now c.loop-node.node-index _
    c.loop-node.invariant c.in-Some.place c.loop-node-test.true (sym c.in-Some.ensures))

pub loop-node-preserved : goal.loop-node-preserved
loop-node-preserved g c =
    first_later (g.M.World.objects c.args.world.now) c.args.nodes.now c.loop-node.node-index _
    c.loop-node.invariant c.loop-node-test.true (sym c.in_default.ensures)

pub returns : goal.returns
returns g c =
    sym (first_none (g.M.World.objects c.args.world.now) c.args.nodes.now c.loop-node.node-index
    c.loop-node.invariant c.loop-node-test.false)
