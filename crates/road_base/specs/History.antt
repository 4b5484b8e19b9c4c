-- A history: its profile, the objects that events left at first, and the changes that came behind them.
use Rattle.std.specs.Prelude.{◌≡◌, ◌↔◌, ℕ, ◌+◌, List, [], ◌∷◌, ◌++◌, length}
use Rattle.std.specs.List.{flat_map}
use Rattle.std.specs.FinMap.{empty}
use Rattle.road_base.specs.declared.event.Event.{Event}
use Rattle.road_base.specs.Objects.{Objects}
use Rattle.road_base.specs.Applying.{IsApplied}

-- The profile is the number of the one under which its graph is made. The base is what was there at first: its number,
-- and its events. Each change is a list of events; the first one has the base number plus 1, and each next one the
-- number that follows.
pub record History : Type 0 where
  pub profile : ℕ
  pub base_number : ℕ
  pub base_events : List Event
  pub changes : List (List Event)

-- the number of the last change, or the base number where no change came
abbrev pub kept : History → ℕ
kept h = h.base_number + length h.changes

-- the base's events, then those of the changes, in order
abbrev pub all_events : History → List Event
all_events h = h.base_events ++ flat_map (λ change. change) h.changes

-- M is what all events of the history leave of the empty map
abbrev pub HasObjects : History → Objects → Type 0
HasObjects h M = IsApplied empty (all_events h) M

-- the history with one more change at its end
abbrev pub with_change : History → List Event → History
with_change h change = record {
  profile = h.profile;
  base_number = h.base_number;
  base_events = h.base_events;
  changes = h.changes ++ change ∷ [];
}

-- A reader, who asks for the profile, the kept number and the objects, finds no difference between the two histories.
pub record SameForReader (g h : History) : Type 0 where
  pub profile : g.profile ≡ h.profile
  pub number : kept g ≡ kept h
  pub objects : (M : Objects) → HasObjects g M ↔ HasObjects h M
