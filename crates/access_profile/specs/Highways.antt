-- The two classes of ways that a profile for cars knows (OSM wiki, Key:highway and Key:access).
use Rattle.std.specs.Prelude.{ℕ, List, [], ◌∷◌, Option, Some, None, Bool, cond, ◌||◌, codes, option_and_then}
use Rattle.std.specs.List.{list_any}
use Rattle.std.specs.Str.{bytes_eq}
use Rattle.road_base.specs.Tags.{TagList, value_of}
use Rattle.road_model.specs.Rules.{is_the_value}
use Rattle.access_profile.specs.declared.highways.RoadClass.{RoadClass}
use Rattle.access_profile.specs.declared.highways.RoadClass.TheVariants.{ForCars, ForOthers}

-- open to cars unless a key closes them
abbrev pub for_cars : List (List ℕ)
for_cars =
    codes "motorway" ∷ codes "trunk" ∷ codes "primary" ∷ codes "secondary" ∷ codes "tertiary"
    ∷ codes "motorway_link" ∷ codes "trunk_link" ∷ codes "primary_link" ∷ codes "secondary_link" ∷ codes "tertiary_link"
    ∷ codes "unclassified" ∷ codes "residential" ∷ codes "living_street" ∷ codes "service" ∷ codes "road" ∷ []

-- closed to cars unless a key for motor vehicles opens them
abbrev pub for_others : List (List ℕ)
for_others =
    codes "track" ∷ codes "pedestrian" ∷ codes "cycleway" ∷ codes "footway" ∷ codes "path" ∷ codes "bridleway"
    ∷ codes "busway" ∷ []

-- the class of a value of `highway`, if it has one
abbrev pub class_of : List ℕ → Option RoadClass
class_of value =
    cond (list_any (bytes_eq value) for_cars) (Some ForCars)
    (cond (list_any (bytes_eq value) for_others) (Some ForOthers) None)

-- the class of a way; none where `highway` is missing or has another value
unfoldable pub road_class : TagList → Option RoadClass
road_class tags = option_and_then class_of (value_of (codes "highway") tags)

-- a node at which to turn round
unfoldable pub is_turning_place : TagList → Bool
is_turning_place tags =
    is_the_value (codes "turning_circle") (value_of (codes "highway") tags)
    || is_the_value (codes "turning_loop") (value_of (codes "highway") tags)
