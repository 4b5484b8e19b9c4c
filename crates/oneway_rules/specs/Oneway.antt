-- In which directions oneway lets a car go along a way (OSM wiki, Key:oneway).
use Rattle.std.specs.Prelude.{ℕ, List, [], ◌∷◌, Option, Some, None, Bool, true, false, cond, ◌||◌, codes, unwrap_or}
use Rattle.std.specs.Prelude.{option_and_then}
use Rattle.std.specs.List.{list_any}
use Rattle.std.specs.Str.{bytes_eq}
use Rattle.road_base.specs.declared.ids.Dir.{Dir}
use Rattle.road_base.specs.declared.ids.Dir.TheVariants.{Forward, Backward}
use Rattle.road_base.specs.Tags.{TagList, value_of}
use Rattle.road_model.specs.Rules.{is_the_value}
use Rattle.oneway_rules.specs.declared.Flow.{Flow}
use Rattle.oneway_rules.specs.declared.Flow.TheVariants.{Both, Along, Against, Neither}

-- the values of `oneway`, by what they allow
abbrev pub along_values : List (List ℕ)
along_values = codes "yes" ∷ codes "true" ∷ codes "1" ∷ []

abbrev pub against_values : List (List ℕ)
against_values = codes "-1" ∷ codes "reverse" ∷ []

abbrev pub both_values : List (List ℕ)
both_values = codes "no" ∷ codes "false" ∷ codes "0" ∷ codes "alternating" ∷ []

abbrev pub neither_values : List (List ℕ)
neither_values = codes "reversible" ∷ []

-- what a value of `oneway` says; any other value says nothing
abbrev pub said_by : List ℕ → Option Flow
said_by value =
    cond (list_any (bytes_eq value) along_values) (Some Along)
    (cond (list_any (bytes_eq value) against_values) (Some Against)
    (cond (list_any (bytes_eq value) both_values) (Some Both)
    (cond (list_any (bytes_eq value) neither_values) (Some Neither) None)))

-- a roundabout, a circular junction or a motorway
unfoldable pub is_oneway_road : TagList → Bool
is_oneway_road tags =
    is_the_value (codes "roundabout") (value_of (codes "junction") tags)
    || is_the_value (codes "circular") (value_of (codes "junction") tags)
    || is_the_value (codes "motorway") (value_of (codes "highway") tags)

-- where `oneway` says nothing: along the way alone on such a road, else both directions
abbrev pub usual_flow : TagList → Flow
usual_flow tags = cond (is_oneway_road tags) Along Both

-- what the value of `oneway` says, and else what is usual
unfoldable pub flow_of : TagList → Flow
flow_of tags = unwrap_or (option_and_then said_by (value_of (codes "oneway") tags)) (usual_flow tags)

abbrev pub lets : Flow → Dir → Bool
lets Both d = true
lets Along Forward = true
lets Along Backward = false
lets Against Forward = false
lets Against Backward = true
lets Neither d = false

-- oneway allows the direction
unfoldable pub oneway_allows : TagList → Dir → Bool
oneway_allows tags d = lets (flow_of tags) d
