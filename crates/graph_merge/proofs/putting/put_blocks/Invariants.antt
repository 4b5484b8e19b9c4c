use Rattle.std.proofs.Common.{◌≡◌, ◌++◌}
use Rattle.graph_file.specs.Writing.{HasWritten}
use Rattle.graph_merge.proofs.putting.put_blocks.Given as goal

-- the blocks so far are written, and the others follow
abbrev pub invariant-loop-block : goal.invariant-loop-block
invariant-loop-block l = record {
  all : l.fn.blocks.items ≡ l.yielded ++ l.block-iterator.rest.items;
  written : HasWritten l.version l.profile l.yielded l.writer;
}
