-- The graph of a map, or of some of its ways, while its blocks are built and written.
use Rattle.std.specs.Prelude.{ℕ, List, Contains}
use Rattle.road_base.specs.declared.ids.WayId.{WayId}
use Rattle.road_base.specs.Objects.{Objects}
use Rattle.road_model.specs.declared.blocks.Block.{Block}
use Rattle.road_model.specs.Rules.{Rules}
use Rattle.ordered_lists.specs.Orders.{Lists}
use Rattle.road_model.specs.Orders.{way_cmp}
use Rattle.road_model.specs.Blocks.{IsRoadBlock}
use Rattle.graph_file.specs.declared.writer.GraphWriter.{GraphWriter}
use Rattle.graph_file.specs.GraphReading.{IsFile}
use Rattle.graph_file.specs.Writing.{HasWritten}

-- the block of one of the ways, which has pieces
pub record IsBlockAmong (M : Objects) (P : Rules) (ways : List WayId) (block : Block) : Type 0 where
  pub among : Contains ways block.way
  pub road : IsRoadBlock M P block

-- the blocks of those of the ways that have pieces are written
pub record HasBlocksOf (M : Objects) (P : Rules) (ways : List WayId) (writer : GraphWriter) : Type 0 where
  pub blocks : List Block
  pub listed : Lists (λ b. b.way) way_cmp (IsBlockAmong M P ways) blocks
  pub written : HasWritten 2 P.number blocks writer

-- the bytes are a graph file of version 2 and of the rules' profile, with the blocks of those of the ways that have
-- pieces, and no others
pub record HasBlocksAmong (M : Objects) (P : Rules) (ways : List WayId) (bytes : List ℕ) : Type 0 where
  pub blocks : List Block
  pub listed : Lists (λ b. b.way) way_cmp (IsBlockAmong M P ways) blocks
  pub file : IsFile 2 P.number bytes blocks
