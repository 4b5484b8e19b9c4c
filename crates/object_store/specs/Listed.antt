-- The object map of a list of entries, each kept as an event.
use Rattle.std.specs.Prelude.{◌≡◌, List, map, Bool, true, false, IsTrue, Some, Contains}
use Rattle.std.specs.FinMap.{from_entries, get}
use Rattle.road_base.specs.declared.ids.Key.{Key}
use Rattle.road_base.specs.declared.ids.Key.TheVariants.{Node as NodeKey, Way as WayKey, Relation as RelationKey}
use Rattle.road_base.specs.declared.event.Event.{Event}
use Rattle.road_base.specs.Objects.{Objects, Entry, key_cmp}
use Rattle.road_base.specs.Applying.{entry_of}
use Rattle.ordered_lists.specs.Orders.{rises}

abbrev pub key_of : Event → Key
key_of e = e.key

abbrev pub pair_of : Event → Key × Entry
pair_of e = (e.key, entry_of e)

abbrev pub objects_of : List Event → Objects
objects_of es = from_entries (map pair_of es)

-- each key is below the next
abbrev pub IsInOrder : List Event → Type 0
IsInOrder es = IsTrue (rises key_cmp (map key_of es))

abbrev pub is_any : Key → Bool
is_any k = true

abbrev pub is_node : Key → Bool
is_node (NodeKey n) = true
is_node (WayKey w) = false
is_node (RelationKey r) = false

abbrev pub is_way : Key → Bool
is_way (NodeKey n) = false
is_way (WayKey w) = true
is_way (RelationKey r) = false

abbrev pub is_relation : Key → Bool
is_relation (NodeKey n) = false
is_relation (WayKey w) = false
is_relation (RelationKey r) = true

-- exactly the map's entries of the keys for which the test holds
pub record AreEntriesOf (is_one : Key → Bool) (M : Objects) (events : List Event) : Type 0 where
  pub own : (e : Event) → Contains events e → IsTrue (is_one e.key) × (get M e.key ≡ Some (entry_of e))
  pub all : (k : Key) (x : Entry) → IsTrue (is_one k) → get M k ≡ Some x
      → (e : Event) × Contains events e × (e.key ≡ k) × (entry_of e ≡ x)
