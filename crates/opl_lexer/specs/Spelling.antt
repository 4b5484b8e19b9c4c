-- What a good line of an object says. (OPL File Format Manual.)
use Rattle.std.specs.Prelude.{◌≡◌, ◌==◌, ℕ, ℤ, List, [], ◌∷◌, Bool, true, false, drop, Option, Some, None, IsFalse}
use Rattle.std.specs.Option.{option_map}
use Rattle.std.specs.List.{find}
use Rattle.std.specs.Str.Parse.{digits_value}
use Rattle.road_base.specs.declared.ids.Key.{Key}
use Rattle.road_base.specs.declared.ids.Key.TheVariants.{Node as NodeKey, Way as WayKey, Relation as RelationKey}
use Rattle.road_base.specs.declared.location.Location.{Location}
use Rattle.road_base.specs.declared.objects.Node.{Node}
use Rattle.road_base.specs.declared.objects.Way.{Way}
use Rattle.road_base.specs.declared.objects.Relation.{Relation}
use Rattle.road_base.specs.declared.objects.Body.{Body}
use Rattle.road_base.specs.declared.objects.Body.TheVariants.{Node as NodeBody, Way as WayBody}
use Rattle.road_base.specs.declared.objects.Body.TheVariants.{Relation as RelationBody, Deleted}
use Rattle.road_base.specs.declared.event.Event.{Event}
use Rattle.road_base.specs.Tags.{TagList, IsAscending, value_of}
use Rattle.opl_lexer.specs.declared.mode.Mode.{Mode}
use Rattle.opl_lexer.specs.Fields.{fields}
use Rattle.opl_lexer.specs.Contents.{Good, Bad, list_of, tag_of, ref_of, member_of, key_of, axis_of, deletion_in}
use Rattle.opl_lexer.specs.Faults.{letter, line_fault, is_passed_over, version_letter, deletion_letter, tags_letter}
use Rattle.opl_lexer.specs.Faults.{lon_letter, lat_letter, refs_letter, members_letter, most_lon, most_lat}

-- what stands behind this letter, where a field has it
abbrev pub text_behind : ℕ → List (List ℕ) → Option (List ℕ)
text_behind b others = option_map (drop 1) (find (λ f. letter f == b) others)

-- the same, where a missing field holds nothing
abbrev pub contents : ℕ → List (List ℕ) → List ℕ
contents b others = elim (text_behind b others) [ None ↦ [] | Some text ↦ text ]

-- a missing version is 0
abbrev pub version_in : List (List ℕ) → ℕ
version_in others = elim (text_behind version_letter others) [ None ↦ 0 | Some digits ↦ digits_value 10 digits ]

-- an object is visible where nothing else is said
abbrev pub is_deleted : List (List ℕ) → Bool
is_deleted others = elim (text_behind deletion_letter others)
    [ None ↦ false | Some flag ↦ elim (deletion_in flag) [ Good deleted ↦ deleted | Bad kind ↦ false ] ]

-- the tags that this list holds, ascending by key; of a key that stands twice the first value
pub record AreTags (list : List ℕ) (tags : TagList) : Type 0 where
  pub pairs : TagList
  pub read : list_of tag_of list ≡ Good pairs
  pub ascending : IsAscending tags
  pub values : (key : List ℕ) → value_of key tags ≡ value_of key pairs

abbrev pub axis_in : ℤ → ℕ → List (List ℕ) → Option ℤ
axis_in most b others = elim (axis_of most (contents b others)) [ Good axis ↦ axis | Bad kind ↦ None ]

-- there is a location exactly where there are both coordinates
abbrev pub HasPlace : Option ℤ → Option ℤ → Option Location → Type 0
HasPlace (Some lon) (Some lat) location = (l : Location) × (location ≡ Some l) × (l.lon ≡ lon) × (l.lat ≡ lat)
HasPlace (Some lon) None location = location ≡ None
HasPlace None lat location = location ≡ None

pub record IsNode (others : List (List ℕ)) (node : Node) : Type 0 where
  pub tags : AreTags (contents tags_letter others) node.tags
  pub place : HasPlace (axis_in most_lon lon_letter others) (axis_in most_lat lat_letter others) node.location

pub record IsWay (others : List (List ℕ)) (way : Way) : Type 0 where
  pub tags : AreTags (contents tags_letter others) way.tags
  pub refs : list_of ref_of (contents refs_letter others) ≡ Good way.refs

pub record IsRelation (others : List (List ℕ)) (relation : Relation) : Type 0 where
  pub tags : AreTags (contents tags_letter others) relation.tags
  pub members : list_of member_of (contents members_letter others) ≡ Good relation.members

-- what a visible object of this kind is
abbrev pub IsVisible : List (List ℕ) → Key → Body → Type 0
IsVisible others (NodeKey id) body = (node : Node) × (body ≡ NodeBody node) × IsNode others node
IsVisible others (WayKey id) body = (way : Way) × (body ≡ WayBody way) × IsWay others way
IsVisible others (RelationKey id) body = (relation : Relation) × (body ≡ RelationBody relation)
    × IsRelation others relation

-- a deletion has no body, whatever its other fields hold
abbrev pub HasBody : Bool → List (List ℕ) → Key → Body → Type 0
HasBody true others key body = body ≡ Deleted
HasBody false others key body = IsVisible others key body

-- The line is good, and it says this event.
pub record Spells (mode : Mode) (line : List ℕ) (event : Event) : Type 0 where
  pub good : line_fault mode line ≡ None
  pub object : List ℕ
  pub others : List (List ℕ)
  pub split : fields line ≡ object ∷ others
  pub taken : IsFalse (is_passed_over (fields line))
  pub key : key_of object ≡ Some event.key
  pub version : event.version ≡ version_in others
  pub body : HasBody (is_deleted others) others event.key event.body
