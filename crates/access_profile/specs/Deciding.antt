-- The key that decides on access to a way in a direction (OSM wiki, Key:access).
use Rattle.std.specs.Prelude.{ℕ, List, [], ◌∷◌, ◌++◌, Option, Some, None, find, is_some, codes}
use Rattle.road_base.specs.declared.ids.Dir.{Dir}
use Rattle.road_base.specs.declared.ids.Dir.TheVariants.{Forward, Backward}
use Rattle.road_base.specs.Tags.{TagList, value_of}
use Rattle.road_model.specs.declared.answers.AccessKey.{AccessKey}
use Rattle.road_model.specs.declared.answers.AccessKey.TheVariants.{Motorcar, MotorVehicle, Vehicle, Access}
use Rattle.road_model.specs.AccessKeys.{key_name}

-- an access key, with the direction that its ending names if it has one
abbrev pub SidedKey : Type 0
SidedKey = AccessKey × Option Dir

abbrev pub ending : Option Dir → List ℕ
ending None = []
ending (Some Forward) = codes ":forward"
ending (Some Backward) = codes ":backward"

-- the key as tags hold it, as `motor_vehicle:backward`
abbrev pub full_key : SidedKey → List ℕ
full_key k = key_name k.0 ++ ending k.1

-- the keys that may decide in a direction, in their order
abbrev pub deciding_keys : Dir → List SidedKey
deciding_keys d =
    (Motorcar, Some d) ∷ (Motorcar, None)
    ∷ (MotorVehicle, Some d) ∷ (MotorVehicle, None)
    ∷ (Vehicle, Some d) ∷ (Vehicle, None)
    ∷ (Access, Some d) ∷ (Access, None) ∷ []

-- the first of them that the tags carry
unfoldable pub deciding : TagList → Dir → Option SidedKey
deciding tags d = find (λ k. is_some (value_of (full_key k) tags)) (deciding_keys d)
