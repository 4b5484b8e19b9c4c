-- What is built for a change that a follower of the map follows.
use Rattle.std.proofs.Common.{◌≡◌, ◌⊎◌, inl, inr, ⊎_elim, ℕ, ◌+◌, ◌≤◌, List, length, refl}
use Rattle.road_base.specs.declared.event.Event.{Event}
use Rattle.road_base.specs.Objects.{Objects}
use Rattle.change_apply.specs.Engines.{BuildsTouched}
use Rattle.session_replies.specs.Replies.{road_costs}

-- no block, or no more than the change costs
pub followed_costs : (M : Objects) (events : List Event) (old new : ℕ) → BuildsTouched M events old new
    → (new ≡ old) ⊎ ((n : ℕ) × road_costs M events n × (new ≤ old + n))
followed_costs M events old new builds =
    ⊎_elim (λ none. inl none) (λ some. inr (length some.0.ways, (some.0, refl), some.1)) builds
