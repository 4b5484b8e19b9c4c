-- What events leave of an object map.
use Rattle.std.specs.Prelude.{◌≡◌, List, [], ◌∷◌, ◌++◌, map, filter, Option, Some, None, Bool, cond, nat_le}
use Rattle.std.specs.Ordering.{is_eq}
use Rattle.std.specs.Option.{option_to_list}
use Rattle.std.specs.FinMap.{get}
use Rattle.road_base.specs.declared.ids.Key.{Key}
use Rattle.road_base.specs.declared.event.Event.{Event}
use Rattle.road_base.specs.Objects.{Objects, Entry, key_cmp}

abbrev pub entry_of : Event → Entry
entry_of e = record { version = e.version; body = e.body }

abbrev pub is_of : Key → Event → Bool
is_of k e = is_eq (key_cmp k e.key)

-- the map's entry for the key, then those of the key's events in their order
abbrev pub entries_for : Objects → List Event → Key → List Entry
entries_for M events k = option_to_list (get M k) ++ map entry_of (filter (is_of k) events)

abbrev pub newer : Entry → Option Entry → Option Entry
newer e None = Some e
newer e (Some later) = cond (nat_le later.version e.version) (Some e) (Some later)

-- the first one with the greatest version
abbrev pub first_greatest : List Entry → Option Entry
first_greatest [] = None
first_greatest (e ∷ es) = newer e (first_greatest es)

-- N is what the events leave of M: for each key the first entry with the greatest version, whichever way they came
abbrev pub IsApplied : Objects → List Event → Objects → Type 0
IsApplied M events N = (k : Key) → get N k ≡ first_greatest (entries_for M events k)
