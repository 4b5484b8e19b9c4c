use Rattle.std.proofs.Common.{sym, ap, subst}
use Rattle.std.specs.FinMap.{FinMap}
use Rattle.road_base.specs.Objects.{Objects}
use Rattle.road_model.specs.declared.blocks.Block.{Block}
use Rattle.road_model.specs.Rules.{Rules}
use Rattle.road_model.specs.Orders.{way_cmp}
use Rattle.road_model.specs.BlockMap.{AreBlocksOf}
use Rattle.least_cost.proofs.least_drives.shortest.Goals as goal

pub shortest_to-requires-clause-blocks : goal.shortest_to-requires-clause-blocks
shortest_to-requires-clause-blocks g c =
    let world = ap g.M.World.objects c.new-network.ensures.world in
    let profile = ap g.P.Profile.rules c.new-network.ensures.profile in
    let M = g.M.World.objects c.new-network.result.world.now in
    let P = g.P.Profile.rules c.new-network.result.profile in
    let blocks = g.B.LendsBlocks.map c.args.blocks.now in
    subst (λ (m : FinMap way_cmp Block). AreBlocksOf M P m) (sym c.lend.ensures)
    (subst (λ (N : Objects). AreBlocksOf N P blocks) (sym world)
    (subst (λ (Q : Rules). AreBlocksOf (g.M.World.objects c.args.world.now) Q blocks) (sym profile) c.requires))
