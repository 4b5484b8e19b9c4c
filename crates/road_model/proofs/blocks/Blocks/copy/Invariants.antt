use Rattle.std.proofs.Common.{◌≡◌, take, vec_len, vec_capacity}
use Rattle.road_model.proofs.blocks.Blocks.copy.Given as goal

abbrev pub invariant-loop-block : goal.invariant-loop-block
invariant-loop-block l = record {
  copied : l.list.items ≡ take l.block-index l.from;
  count : vec_len l.list ≡ l.block-index;
  room : vec_capacity l.list ≡ vec_capacity l.initial.list;
}
