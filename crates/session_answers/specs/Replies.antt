-- What the lines of a session may be answered with, and how much its changes may cost.
use Rattle.std.specs.Prelude.{ℕ, ◌+◌, ◌≤◌, List, Option}
use Rattle.road_base.specs.declared.event.Event.{Event}
use Rattle.road_base.specs.History.{History}
use Rattle.road_base.specs.Objects.{Objects}

-- Behind a history, with something of type B beside it, a line with this text (none where it isn't UTF-8) may get this
-- reply, and then this stands beside the history. A line leaves the history as it is.
abbrev pub Replies : Type 0 → Type 1
Replies B = History → B → (text : Option (List ℕ)) → (reply : List ℕ) → (then : B) → Type 0

-- so many blocks at most are built for a change of these objects by these events
abbrev pub Costs : Type 1
Costs = Objects → List Event → ℕ → Type 0

-- from one count to the other it rose by no more than the change of these objects costs
abbrev pub CostsAtMost : Costs → Objects → List Event → ℕ → ℕ → Type 0
CostsAtMost C M events old new = (n : ℕ) × C M events n × (new ≤ old + n)
