-- The graph's blocks are those of its world.
use Rattle.std.proofs.Common.{sym, subst}
use Rattle.road_base.specs.Objects.{Objects}
use Rattle.road_model.specs.BlockMap.{AreBlocksOf}
use Rattle.graph_blocks.specs.Lent.{map_of}
use Rattle.query_tests.proofs.least_cost_tests.found.Goals as goal

pub shortest-requires : goal.shortest-requires
shortest-requires c =
    subst (λ (M : Objects). AreBlocksOf M _ (map_of c.blocks-2.result.now)) (sym c.world.ensures)
    c.blocks-2.ensures.blocks
