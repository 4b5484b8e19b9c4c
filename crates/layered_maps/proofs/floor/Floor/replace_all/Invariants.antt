use Rattle.std.proofs.Common.{◌≡◌, drop, length, take}
use Rattle.layered_maps.specs.Maps.{replaced_by}
use Rattle.layered_maps.proofs.floor.Floor.replace_all.Given as goal

-- the first values are left, and the others stand in the floor
abbrev pub invariant-loop-value : goal.invariant-loop-value
invariant-loop-value g l =
    (l.values.items ≡ take (length l.values.items) l.fn.values.items)
    × (l.self ≡ replaced_by g.V.Keyed.key g.K.Ord.cmp (drop (length l.values.items) l.fn.values.items) l.initial.self)

abbrev pub decreases-loop-value : goal.decreases-loop-value
decreases-loop-value g l = length l.values.items
