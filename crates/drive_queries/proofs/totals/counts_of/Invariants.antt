use Rattle.std.proofs.Common.{◌≡◌, ◌++◌, List, length}
use Rattle.road_model.specs.declared.blocks.Block.{Block}
use Rattle.drive_queries.specs.Counting.{totals_of}
use Rattle.drive_queries.proofs.totals.counts_of.Given as goal

-- those in front of the ones that are left are counted
abbrev pub invariant-loop-block : goal.invariant-loop-block
invariant-loop-block l = record {
  front : List Block;
  all : front ++ l.rest ≡ l.fn.blocks;
  counted : l.totals ≡ totals_of front;
}

abbrev pub decreases-loop-block : goal.decreases-loop-block
decreases-loop-block l = length l.rest
