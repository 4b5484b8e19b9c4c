-- The fields in front of a base's bytes and of a record's.
use Rattle.std.specs.Prelude.{◌≡◌, ℕ, ◌<◌, ◌^◌, List, ◌∷◌, ◌++◌}
use Rattle.road_base.specs.Bytes.{u64_bytes}
use Rattle.sequence_journal.specs.Layout.{head_bytes}

-- the numbers fit the fields of a base's head
pub record HeadFits (profile generation number size : ℕ) : Type 0 where
  pub profile_fits : profile < 2 ^ 32
  pub generation_fits : generation < 2 ^ 64
  pub number_fits : number < 2 ^ 64
  pub size_fits : size < 2 ^ 64

-- no head of a base stands in front
abbrev pub NoHead : List ℕ → Type 0
NoHead bytes = (profile generation number size : ℕ) (rest : List ℕ)
    → bytes ≡ head_bytes profile generation number size ++ rest → ⊥

-- an open gate and the two fields of a record, 17 bytes
abbrev pub fields_bytes : ℕ → ℕ → List ℕ
fields_bytes number size = 1 ∷ (u64_bytes number ++ u64_bytes size)

-- no fields of a record stand behind an open gate in front
abbrev pub NoFields : List ℕ → Type 0
NoFields bytes = (number size : ℕ) (rest : List ℕ) → bytes ≡ fields_bytes number size ++ rest → ⊥
