-- The object map of events that are kept at their keys, and which events come into it.
use Rattle.std.specs.Prelude.{List, map, Bool, true, Option, Some, None, nat_lt}
use Rattle.std.specs.FinMap.{from_entries, get}
use Rattle.road_base.specs.declared.ids.Key.{Key}
use Rattle.road_base.specs.declared.event.Event.{Event}
use Rattle.road_base.specs.Objects.{Objects, Entry}
use Rattle.road_base.specs.Applying.{entry_of}
use Rattle.layered_maps.specs.declared.change.Change.{Change}
use Rattle.layered_maps.specs.declared.change.Change.TheVariants.{Put}

-- a key with the entry of the event that is kept at it
abbrev pub kept_pair : Key × Event → Key × Entry
kept_pair p = (p.0, entry_of p.1)

-- the object map of the pairs
abbrev pub objects_in : List (Key × Event) → Objects
objects_in pairs = from_entries (map kept_pair pairs)

-- there is no entry, or one of a lower version
abbrev pub is_later : Option Entry → Event → Bool
is_later None e = true
is_later (Some old) e = nat_lt old.version e.version

-- the event stands where it comes to the entry of its key
abbrev pub stands : Objects → Event → Bool
stands M e = is_later (get M e.key) e

-- each event as a change, which puts it at its key
abbrev pub puts : List Event → List (Change Key Event)
puts events = map (λ e. Put e) events
