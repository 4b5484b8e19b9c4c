-- Spellings that several kinds of bytes have. All numbers are little endian (`road_base`).
use Rattle.std.specs.Prelude.{◌≡◌, ℕ, List, ◌++◌, length, FitsSigned}
use Rattle.std.specs.List.{AllByRecursion}
use Rattle.std.specs.Int.{w32}
use Rattle.road_base.specs.Bytes.{i32_bytes}
use Rattle.road_base.specs.declared.location.Location.{Location}

-- the bytes of the first, and then those of the second
abbrev pub pair_bytes : {A B : Type 0} → (A → List ℕ) → (B → List ℕ) → A × B → List ℕ
pair_bytes first second p = first p.0 ++ second p.1

-- each as it has to be
abbrev pub PairFits : {A B : Type 0} → (A → Type 0) → (B → Type 0) → A × B → Type 0
PairFits First Second p = First p.0 × Second p.1

-- so many of them, each as it has to be
abbrev pub AreSoMany : {A : Type 0} → (A → Type 0) → ℕ → List A → Type 0
AreSoMany Fits count xs = (length xs ≡ count) × AllByRecursion Fits xs

-- the longitude and the latitude
abbrev pub location_bytes : Location → List ℕ
location_bytes l = i32_bytes l.lon ++ i32_bytes l.lat

-- what four bytes each can hold; that the location is in range, its type says
abbrev pub LocationFits : Location → Type 0
LocationFits l = FitsSigned w32 l.lon × FitsSigned w32 l.lat
