use Rattle.std.proofs.Common.{◌≡◌, ◌++◌, List, length}
use Rattle.std.specs.List.{AllByRecursion}
use Rattle.road_base.specs.Bytes.{joined}
use Rattle.road_model.specs.declared.blocks.Block.{Block}
use Rattle.road_model.specs.Format.{is_sourced, block_bytes, BlockFits, IsBlockForm}
use Rattle.graph_file.proofs.put_blocks.Given as goal

-- the blocks in front of those that are left are spelled, and their numbers fit
abbrev pub invariant-loop-block : goal.invariant-loop-block
invariant-loop-block l = record {
  front : List Block;
  all : front ++ l.rest ≡ l.fn.blocks;
  forms : AllByRecursion (IsBlockForm (is_sourced l.version)) l.rest;
  spelled : l.out.items ≡ l.initial.out.items ++ joined (block_bytes (is_sourced l.version)) front;
  fit : AllByRecursion (BlockFits (is_sourced l.version)) front;
}

abbrev pub decreases-loop-block : goal.decreases-loop-block
decreases-loop-block l = length l.rest
