-- Which nodes let a car through (OSM wiki, Key:barrier and Key:access).
use Rattle.std.specs.Prelude.{ℕ, List, [], ◌∷◌, Option, Some, None, Bool, true, find, is_some, codes}
use Rattle.std.specs.List.{list_any}
use Rattle.std.specs.Str.{bytes_eq}
use Rattle.road_base.specs.Tags.{TagList, value_of}
use Rattle.road_model.specs.declared.answers.AccessKey.{AccessKey}
use Rattle.road_model.specs.AccessKeys.{key_name, access_keys}
use Rattle.barrier_rules.specs.OpenValues.{has_open_value}

-- the barriers that let a car through where no access key says otherwise
abbrev pub open_barriers : List (List ℕ)
open_barriers =
    codes "cattle_grid" ∷ codes "toll_booth" ∷ codes "border_control" ∷ codes "entrance" ∷ codes "height_restrictor"
    ∷ codes "gate" ∷ codes "lift_gate" ∷ codes "sally_port" ∷ codes "kerb" ∷ codes "no" ∷ []

unfoldable pub is_open_barrier : List ℕ → Bool
is_open_barrier barrier = list_any (bytes_eq barrier) open_barriers

-- the first access key that the tags carry
unfoldable pub first_key : TagList → Option AccessKey
first_key tags = find (λ k. is_some (value_of (key_name k) tags)) access_keys

-- the value of that key decides, and where there is none the kind of barrier
abbrev pub lets_through : TagList → List ℕ → Option AccessKey → Bool
lets_through tags barrier None = is_open_barrier barrier
lets_through tags barrier (Some k) = has_open_value (key_name k) tags

abbrev pub is_open_at : TagList → Option (List ℕ) → Bool
is_open_at tags None = true
is_open_at tags (Some barrier) = lets_through tags barrier (first_key tags)

-- a node is open where it has no barrier, or its barrier lets a car through
unfoldable pub barrier_open : TagList → Bool
barrier_open tags = is_open_at tags (value_of (codes "barrier") tags)
