-- What a restriction says to a car (OSM wiki, Relation:restriction).
use Rattle.std.specs.Prelude.{◌==◌, ℕ, List, [], ◌∷◌, Option, Some, None, Bool, false, cond, codes, reverse, nat_eq}
use Rattle.std.specs.List.{list_any, slice_split, starts_with}
use Rattle.std.specs.Str.{bytes_eq}
use Rattle.road_base.specs.Tags.{TagList, value_of}
use Rattle.road_model.specs.declared.answers.RuleKind.{RuleKind}
use Rattle.road_model.specs.declared.answers.RuleKind.TheVariants.{Freed, Absent, No, Only}
use Rattle.access_profile.specs.Letters.{semicolon, space}

-- the vehicles that a car is one of
abbrev pub car_names : List (List ℕ)
car_names = codes "motorcar" ∷ codes "motor_vehicle" ∷ codes "vehicle" ∷ []

unfoldable pub is_car_name : List ℕ → Bool
is_car_name name = list_any (bytes_eq name) car_names

-- without the spaces in front
abbrev pub behind_spaces : List ℕ → List ℕ
behind_spaces [] = []
behind_spaces (b ∷ bs) = cond (b == space) (behind_spaces bs) (b ∷ bs)

-- without the spaces on both sides
unfoldable pub without_spaces : List ℕ → List ℕ
without_spaces bs = reverse (behind_spaces (reverse (behind_spaces bs)))

-- the parts between semicolons
abbrev pub parts : List ℕ → List (List ℕ)
parts value = slice_split (λ b. b == semicolon) value

-- a part of the value names a car
unfoldable pub names_car : List ℕ → Bool
names_car value = list_any (λ part. is_car_name (without_spaces part)) (parts value)

abbrev pub is_excepted : Option (List ℕ) → Bool
is_excepted None = false
is_excepted (Some value) = names_car value

-- a value that forbids turns begins with `no_`, one that allows no other turns with `only_`
unfoldable pub kind_of : List ℕ → RuleKind
kind_of value = cond (starts_with nat_eq value (codes "no_")) No
    (cond (starts_with nat_eq value (codes "only_")) Only Absent)

-- the value for cars decides, and where there is none the value for all
abbrev pub kind_by : Option (List ℕ) → Option (List ℕ) → RuleKind
kind_by (Some value) other = kind_of value
kind_by None (Some value) = kind_of value
kind_by None None = Absent

-- a restriction that excepts cars says nothing to them
unfoldable pub rule : TagList → RuleKind
rule tags =
    cond (is_excepted (value_of (codes "except") tags)) Freed
    (kind_by (value_of (codes "restriction:motorcar") tags) (value_of (codes "restriction") tags))
