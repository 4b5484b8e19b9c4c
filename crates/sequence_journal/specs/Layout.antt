-- How a file of a store is laid out: an open base, and open records behind it. All numbers are little endian, and a
-- length stands in front of the bytes that it counts. A gate is one byte, 1 where it is open.
use Rattle.std.specs.Prelude.{◌≡◌, ℕ, ◌<◌, ◌^◌, List, ◌∷◌, ◌++◌, length, codes}
use Rattle.road_base.specs.Bytes.{u32_bytes, u64_bytes}

abbrev pub magic : List ℕ
magic = codes "OSMJRNL1"

-- ---- the base

-- an open gate, the magic and four fields, 37 bytes: the profile, the generation, the number and how many bytes follow
abbrev pub head_bytes : ℕ → ℕ → ℕ → ℕ → List ℕ
head_bytes profile generation number size =
    (1 ∷ magic) ++ u32_bytes profile ++ u64_bytes generation ++ u64_bytes number ++ u64_bytes size

-- what a base says
pub record Base : Type 0 where
  pub profile : ℕ
  pub generation : ℕ
  pub number : ℕ
  pub bytes : List ℕ

abbrev pub base_bytes : Base → List ℕ
base_bytes b = head_bytes b.profile b.generation b.number (length b.bytes) ++ b.bytes

-- its numbers fit their fields
pub record BaseFits (b : Base) : Type 0 where
  pub profile : b.profile < 2 ^ 32
  pub generation : b.generation < 2 ^ 64
  pub number : b.number < 2 ^ 64
  pub size : length b.bytes < 2 ^ 64

-- The file begins with this open base, and `rest` is behind it. The next gate is the first byte of the rest, and need
-- not lie in the file.
pub record BaseIsOpen (file : List ℕ) (b : Base) (rest : List ℕ) : Type 0 where
  pub fits : BaseFits b
  pub split : file ≡ base_bytes b ++ rest

-- the file has no open base
abbrev pub NoBase : List ℕ → Type 0
NoBase file = (b : Base) (rest : List ℕ) → BaseIsOpen file b rest → ⊥

-- the file has some open base
abbrev pub HasBase : List ℕ → Type 0
HasBase file = (b : Base) × (rest : List ℕ) × BaseIsOpen file b rest

-- ---- a record

-- what a record says
pub record Numbered : Type 0 where
  pub number : ℕ
  pub bytes : List ℕ

-- two fields, the number and how many bytes follow, and the bytes
abbrev pub fields : Numbered → List ℕ
fields r = u64_bytes r.number ++ u64_bytes (length r.bytes) ++ r.bytes

abbrev pub record_bytes : Numbered → List ℕ
record_bytes r = 1 ∷ fields r

pub record NumberedFits (r : Numbered) : Type 0 where
  pub number : r.number < 2 ^ 64
  pub size : length r.bytes < 2 ^ 64

-- these bytes begin with this open record, and `rest` is behind it
pub record RecordIsOpen (bytes : List ℕ) (r : Numbered) (rest : List ℕ) : Type 0 where
  pub fits : NumberedFits r
  pub split : bytes ≡ record_bytes r ++ rest

-- no open record stands there
abbrev pub IsClosed : List ℕ → Type 0
IsClosed bytes = (r : Numbered) (rest : List ℕ) → RecordIsOpen bytes r rest → ⊥
