use Rattle.std.proofs.Common.{◌≡◌, ℕ, ◌<◌, Some, map, slice_get}
use Rattle.road_model.specs.declared.lists.TurnArc.{TurnArc}
use Rattle.context_search.specs.Marks.{At, at_of}
use Rattle.least_cost.specs.Shown.{HoldsOnArc}
use Rattle.least_cost.proofs.conditions.holds_on_arcs.Given as goal

-- it holds on the arcs so far
abbrev pub invariant-loop-place : goal.invariant-loop-place
invariant-loop-place l = (k : ℕ) (x : At) (arc : TurnArc) → k < l.place → slice_get l.arcs k ≡ Some arc
    → slice_get (map at_of l.numbered.spots.now) l.number ≡ Some x
    → HoldsOnArc (map at_of l.numbered.spots.now) l.numbered.numbers.now l.claim.b l.claim.cost l.number x arc
