-- The limits of an input.
use Rattle.std.specs.Prelude.{◌≡◌, ◌≢◌, ◌⊎◌, ◌+◌, ◌-◌, ◌≤◌, ◌<◌, ◌^◌, ℕ, List, ◌++◌, length, slice_index}
use Rattle.opl_lexer.specs.Letters.{newline}
use Rattle.bounded_input.specs.declared.limits.Measure.{Measure}

-- there are more than 2^30 bytes: the limit of a graph file, which has no lines
abbrev pub HasTooManyBytes : List ℕ → Type 0
HasTooManyBytes bytes = 2 ^ 30 < length bytes

-- from this byte on more than 2^24 bytes come without a newline
abbrev pub IsLongFrom : List ℕ → ℕ → Type 0
IsLongFrom bytes i = (i + 2 ^ 24 < length bytes) × ((j : ℕ) → i ≤ j → j ≤ i + 2 ^ 24 → slice_index bytes j ≢ newline)

-- a line has more than 2^24 bytes
abbrev pub HasLongLine : List ℕ → Type 0
HasLongLine bytes = (i : ℕ) × IsLongFrom bytes i

-- there are more than 2^30 bytes, or a line has more than 2^24
abbrev pub PassesLimit : List ℕ → Type 0
PassesLimit bytes = (2 ^ 30 < length bytes) ⊎ HasLongLine bytes

-- there are more than so many bytes, or a line has more than 2^24
abbrev pub Passes : ℕ → List ℕ → Type 0
Passes most bytes = (most < length bytes) ⊎ HasLongLine bytes

-- there are more than 2^62 bytes, or a line has more than 2^24: the limits of an input that isn't kept
abbrev pub PassesStreamLimit : List ℕ → Type 0
PassesStreamLimit bytes = (2 ^ 62 < length bytes) ⊎ HasLongLine bytes

-- the bytes pass a limit in their last part, which has at most 2^16 of them; those before it pass none
pub record PassesAtLast (IsPassed : List ℕ → Type 0) (bytes : List ℕ) : Type 0 where
  pub front : List ℕ
  pub part : List ℕ
  pub is : bytes ≡ front ++ part
  pub small : length part ≤ 2 ^ 16
  pub within : IsPassed front → ⊥
  pub passes : IsPassed bytes

-- the last k bytes are those behind the last newline
pub record EndsLine (bytes : List ℕ) (k : ℕ) : Type 0 where
  pub bound : k ≤ length bytes
  pub open_line : (j : ℕ) → length bytes - k ≤ j → j < length bytes → slice_index bytes j ≢ newline
  pub start : (k ≡ length bytes) ⊎ ((k < length bytes) × (slice_index bytes (length bytes - k - 1) ≡ newline))

-- the bytes pass no limit, and are that long
pub record Measures (bytes : List ℕ) (measure : Measure) : Type 0 where
  pub total : measure.total ≡ length bytes
  pub line : EndsLine bytes measure.line
  pub short : HasLongLine bytes → ⊥
