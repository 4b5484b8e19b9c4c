-- What a profile answers, as functions of tags.
use Rattle.std.specs.Prelude.{ℕ, List, Option, None, Some, Bool, true, false, codes, is_some}
use Rattle.std.specs.Str.{bytes_eq}
use Rattle.road_base.specs.declared.ids.Dir.{Dir}
use Rattle.road_base.specs.Tags.{TagList, value_of}
use Rattle.road_model.specs.declared.answers.Access.{Access}
use Rattle.road_model.specs.declared.answers.Access.TheVariants.{Free, Closed, WrongWay}
use Rattle.road_model.specs.declared.answers.RuleKind.{RuleKind}
use Rattle.road_model.specs.declared.answers.RuleKind.TheVariants.{Freed, Absent, No, Only}

-- the profile's number, whether a way is open in a direction, whether a node is open, whether it is a place to turn
-- round, what a restriction says, whether a restriction may list its via ways backwards, and whether a way is open in a
-- direction to destination traffic alone
pub record Rules : Type 0 where
  pub number : ℕ
  pub direction : TagList → Dir → Access
  pub node_open : TagList → Bool
  pub turns : TagList → Bool
  pub rule : TagList → RuleKind
  pub reverses : Bool
  pub zone : TagList → Dir → Bool

abbrev pub is_free : Access → Bool
is_free Free = true
is_free (Closed by) = false
is_free WrongWay = false

abbrev pub is_only : RuleKind → Bool
is_only Freed = false
is_only Absent = false
is_only No = false
is_only Only = true

abbrev pub is_the_value : List ℕ → Option (List ℕ) → Bool
is_the_value v None = false
is_the_value v (Some w) = bytes_eq w v

-- the key `highway` is carried, whatever its value
abbrev pub has_highway : TagList → Bool
has_highway tags = is_some (value_of (codes "highway") tags)

-- the tag `type=restriction` (OSM wiki, Relation:restriction)
abbrev pub is_restriction : TagList → Bool
is_restriction tags = is_the_value (codes "restriction") (value_of (codes "type") tags)
