use Rattle.std.proofs.Common.{◌≡◌, ◌≤◌, ◌-◌, true, false, length}
use Rattle.std.specs.List.{AllWithin}
use Rattle.std.specs.Ordering.{is_lt}
use Rattle.layered_maps.proofs.keyed_search.count_below.Given as goal

-- lower keys stand before the first position, and none from the second one on
abbrev pub invariant-loop-low : goal.invariant-loop-low
invariant-loop-low g l =
    (l.low ≤ l.high) × (l.high ≤ length l.list)
    × AllWithin (λ v. is_lt (g.K.Ord.cmp (g.V.Keyed.key v) l.key) ≡ true) l.list 0 l.low
    × AllWithin (λ v. is_lt (g.K.Ord.cmp (g.V.Keyed.key v) l.key) ≡ false) l.list l.high (length l.list)

abbrev pub decreases-loop-low : goal.decreases-loop-low
decreases-loop-low g l = l.high - l.low
