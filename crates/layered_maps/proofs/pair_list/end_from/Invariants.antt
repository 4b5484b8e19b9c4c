use Rattle.std.proofs.Common.{◌≡◌, true}
use Rattle.std.specs.List.{AllWithin}
use Rattle.std.specs.Ordering.{is_le}
use Rattle.layered_maps.proofs.pair_list.end_from.Given as goal

-- no key so far is above this one
abbrev pub invariant-loop-at : goal.invariant-loop-at
invariant-loop-at g l = AllWithin (λ a. is_le (g.K.Ord.cmp a l.key) ≡ true) l.keys l.low l.at
