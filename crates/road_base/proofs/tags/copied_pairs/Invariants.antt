use Rattle.std.proofs.Common.{◌≡◌, take}
use Rattle.road_base.proofs.tags.copied_pairs.Given as goal

abbrev pub invariant-loop-pair : goal.invariant-loop-pair
invariant-loop-pair l = l.list.items ≡ take l.pair-index l.pairs
