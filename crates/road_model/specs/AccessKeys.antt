-- The keys that say who may pass (OSM wiki, Key:access).
use Rattle.std.specs.Prelude.{ℕ, List, [], ◌∷◌, codes}
use Rattle.road_model.specs.declared.answers.AccessKey.{AccessKey}
use Rattle.road_model.specs.declared.answers.AccessKey.TheVariants.{Motorcar, MotorVehicle, Vehicle, Access}

-- the key as tags hold it
abbrev pub key_name : AccessKey → List ℕ
key_name Motorcar = codes "motorcar"
key_name MotorVehicle = codes "motor_vehicle"
key_name Vehicle = codes "vehicle"
key_name Access = codes "access"

-- the keys that may decide, the most specific first
abbrev pub access_keys : List AccessKey
access_keys = Motorcar ∷ MotorVehicle ∷ Vehicle ∷ Access ∷ []
