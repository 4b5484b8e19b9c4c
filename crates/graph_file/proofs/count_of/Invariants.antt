use Rattle.std.proofs.Common.{◌≡◌, ◌++◌, List, length, min}
use Rattle.road_model.specs.declared.blocks.Block.{Block}
use Rattle.graph_file.proofs.count_of.Given as goal

-- the blocks in front of those that are left are counted
abbrev pub invariant-loop-count : goal.invariant-loop-count
invariant-loop-count l = record {
  front : List Block;
  all : front ++ l.rest ≡ l.fn.blocks;
  count : l.count ≡ min (length front) 18446744073709551615;
}

abbrev pub decreases-loop-count : goal.decreases-loop-count
decreases-loop-count l = length l.rest
