use Rattle.std.proofs.Common.{◌≡◌, ◌++◌}
use Rattle.change_apply.proofs.SourcedBlocks.{AreListed}
use Rattle.change_apply.proofs.joining.blocks_of.Given as goal

-- the blocks so far stand at their ways
abbrev pub invariant-loop-block : goal.invariant-loop-block
invariant-loop-block l = record {
  all : l.initial.block-iterator.rest.items ≡ l.yielded ++ l.block-iterator.rest.items;
  listed : AreListed l.yielded l.blocks.map;
}
