use Rattle.std.proofs.Common.{◌≡◌, drop}
use Rattle.road_base.specs.Tags.{value_of}
use Rattle.road_base.proofs.tags.value_among.Given as goal

-- what the pairs from here on have for the key, all have
abbrev pub invariant-loop-pair : goal.invariant-loop-pair
invariant-loop-pair l = value_of l.key l.list ≡ value_of l.key (drop l.pair-index l.list)
