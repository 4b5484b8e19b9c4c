use Rattle.std.proofs.Common.{take, Contains}
use Rattle.ordered_lists.specs.Orders.{Lists}
use Rattle.road_model.specs.Orders.{way_cmp}
use Rattle.touched_ways.proofs.altering.apart_from.Given as goal

-- those of the ways so far that aren't among the others
abbrev pub invariant-loop-way : goal.invariant-loop-way
invariant-loop-way l =
    Lists (λ w. w) way_cmp (λ w. Contains (take l.way-index l.way-items) w × (Contains l.others w → ⊥)) l.apart.items
