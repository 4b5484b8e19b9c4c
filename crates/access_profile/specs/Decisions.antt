-- What decides on access to a way in a direction, and what it says (OSM wiki, Key:access and Tag:access=destination).
use Rattle.std.specs.Prelude.{ℕ, List, Option, Bool, false, cond, codes, option_map, option_and_then}
use Rattle.std.specs.Str.{bytes_eq}
use Rattle.road_base.specs.declared.ids.Dir.{Dir}
use Rattle.road_base.specs.Tags.{TagList, value_of}
use Rattle.barrier_rules.specs.OpenValues.{is_open_value}
use Rattle.access_profile.specs.declared.decisions.Permission.{Permission}
use Rattle.access_profile.specs.declared.decisions.Permission.TheVariants.{All, Destination, Nobody}
use Rattle.access_profile.specs.declared.decisions.Decision.{Decision}
use Rattle.access_profile.specs.Deciding.{SidedKey, full_key, deciding}

-- an open value lets all pass, but for `destination`, which lets destination traffic alone; any other value nobody
abbrev pub permission_of : List ℕ → Permission
permission_of value = cond (is_open_value value) (cond (bytes_eq value (codes "destination")) Destination All) Nobody

-- what a key says by this value, be it the key alone or the one with the ending `:conditional`
abbrev pub decision_by : Bool → SidedKey → List ℕ → Decision
decision_by conditional k value =
    record { name = k.0; side = k.1; conditional = conditional; permission = permission_of value }

-- what the key alone says, where the tags carry it
abbrev pub said_by_key : TagList → SidedKey → Option Decision
said_by_key tags k = option_map (decision_by false k) (value_of (full_key k) tags)

-- what the deciding key says
unfoldable pub decision_of : TagList → Dir → Option Decision
decision_of tags d = option_and_then (said_by_key tags) (deciding tags d)
