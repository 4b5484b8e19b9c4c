use Rattle.std.proofs.Common.{ℕ, ◌<◌, List, [], ◌∷◌, ◌++◌, length}
use Rattle.std.proofs.Common.{reverse}
use Rattle.context_search.specs.Routes.{IsChain}
use Rattle.context_search.proofs.routes.way_back.Given as goal

-- what leads to the visit leads on over those that were passed
abbrev pub invariant-loop-before : goal.invariant-loop-before
invariant-loop-before l = record {
  within : l.at < length l.visits;
  chain : (first : ℕ) (ks : List ℕ) → IsChain l.visits first (ks ++ l.at ∷ []) l.at
      → IsChain l.visits first (ks ++ l.at ∷ reverse l.places.items) l.place;
}

abbrev pub decreases-loop-before : goal.decreases-loop-before
decreases-loop-before l = l.at
