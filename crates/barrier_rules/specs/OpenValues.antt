-- The values of access keys that let a car pass (OSM wiki, Key:access).
use Rattle.std.specs.Prelude.{ℕ, List, [], ◌∷◌, Option, Some, None, Bool, false, codes}
use Rattle.std.specs.List.{list_any}
use Rattle.std.specs.Str.{bytes_eq}
use Rattle.road_base.specs.Tags.{TagList, value_of}

-- the values that let a car pass
abbrev pub open_values : List (List ℕ)
open_values =
    codes "yes" ∷ codes "permissive" ∷ codes "designated" ∷ codes "destination"
    ∷ codes "official" ∷ codes "public" ∷ codes "discouraged" ∷ codes "unknown" ∷ []

-- the value lets a car pass; every other value doesn't, and the empty one doesn't either
unfoldable pub is_open_value : List ℕ → Bool
is_open_value value = list_any (bytes_eq value) open_values

abbrev pub is_opened : Option (List ℕ) → Bool
is_opened None = false
is_opened (Some value) = is_open_value value

-- the tags carry the key, with a value that lets a car pass
abbrev pub has_open_value : List ℕ → TagList → Bool
has_open_value key tags = is_opened (value_of key tags)
