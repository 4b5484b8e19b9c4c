-- What a writer of a graph file holds.
use Rattle.std.specs.Prelude.{◌≡◌, ℕ, List, ◌++◌, length}
use Rattle.std.specs.List.{AllByRecursion}
use Rattle.road_base.specs.Bytes.{u32_bytes, u64_bytes, joined}
use Rattle.road_model.specs.declared.blocks.Block.{Block}
use Rattle.road_model.specs.Format.{IsVersion, is_sourced, magic_bytes, block_bytes, BlockFits, IsBlockForm}
use Rattle.graph_file.specs.declared.writer.GraphWriter.{GraphWriter}

-- the writer has written these blocks for the version and the profile: its bytes are those of their graph but for the
-- count, in whose place there are eight zeros
pub record HasWritten (version profile : ℕ) (blocks : List Block) (writer : GraphWriter) : Type 0 where
  pub known_version : IsVersion version
  pub version_is : writer.version ≡ version
  pub count : writer.count ≡ length blocks
  pub bytes : writer.bytes.items ≡ magic_bytes (is_sourced version)
      ++ (u32_bytes profile ++ (u64_bytes 0 ++ joined (block_bytes (is_sourced version)) blocks))
  pub forms : AllByRecursion (IsBlockForm (is_sourced version)) blocks
  pub fit : AllByRecursion (BlockFits (is_sourced version)) blocks
