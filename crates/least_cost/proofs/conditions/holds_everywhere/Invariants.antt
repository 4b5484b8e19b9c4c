use Rattle.std.proofs.Common.{◌≡◌, ℕ, ◌<◌, map, Some, slice_get}
use Rattle.context_search.specs.Marks.{At, at_of}
use Rattle.least_cost.specs.Shown.{HoldsAtContext}
use Rattle.least_cost.proofs.conditions.holds_everywhere.Given as goal

-- it holds of the contexts so far
abbrev pub invariant-loop-number : goal.invariant-loop-number
invariant-loop-number l = (k : ℕ) (x : At) → k < l.number → slice_get (map at_of l.numbered.spots.now) k ≡ Some x
    → HoldsAtContext (map at_of l.numbered.spots.now) l.numbered.numbers.now l.claim.a l.claim.b l.claim.cost k x
