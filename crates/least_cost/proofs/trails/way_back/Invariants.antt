use Rattle.std.proofs.Common.{ℕ, ◌<◌, List, [], ◌∷◌, ◌++◌, length}
use Rattle.std.proofs.Common.{reverse}
use Rattle.least_cost.specs.Trails.{IsTrail}
use Rattle.least_cost.proofs.trails.way_back.Given as goal

-- what leads to the visit leads on over those that were passed
abbrev pub invariant-loop-before : goal.invariant-loop-before
invariant-loop-before l = record {
  within : l.at < length l.visits;
  trail : (first : ℕ) (ks : List ℕ) → IsTrail l.visits first (ks ++ l.at ∷ []) l.at
      → IsTrail l.visits first (ks ++ l.at ∷ reverse l.places.items) l.place;
}

abbrev pub decreases-loop-before : goal.decreases-loop-before
decreases-loop-before l = l.at
