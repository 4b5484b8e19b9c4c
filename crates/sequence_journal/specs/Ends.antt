-- What the writes at a file's end leave: a chunk behind a gate, an end repaired, a base.
use Rattle.std.specs.Prelude.{◌≡◌, ◌⊎◌, ℕ, List, [], ◌∷◌, ◌++◌, length, take, Result, OnOk}
use Rattle.road_io.specs.declared.outside.Failed.{Failed}
use Rattle.road_io.specs.declared.outside.Which.{Which}
use Rattle.road_io.specs.Disk.{IsDurable, settled}
use Rattle.road_io.specs.Outside.{Outside, disk, other, LeavesOnly, LeavesFile}

-- ---- a chunk behind the closed gate at the file's end, and the gate opened

-- Behind the front the gate is closed, whatever is behind it. Or the whole chunk is behind it, open or not.
abbrev pub IsGated : List ℕ → List ℕ → List ℕ → Type 0
IsGated front chunk image =
    ((tail : List ℕ) × (image ≡ front ++ 0 ∷ tail)) ⊎ ((gate : ℕ) × (image ≡ front ++ gate ∷ chunk))

pub record Opened (file : Which) (front chunk : List ℕ) (result : Result (Unit {0}) Failed) (w v : Outside) : Type 0
  where
    pub any_moment : LeavesOnly w v (LeavesFile file (IsGated front chunk) w)
    pub done : OnOk result (disk v file ≡ settled (front ++ 1 ∷ chunk))
    pub others : disk v (other file) ≡ disk w (other file)
    pub output : v.output ≡ w.output

-- the file was a front and a closed gate, and nothing was pending
abbrev pub Opens : Which → ℕ → List ℕ → Result (Unit {0}) Failed → Outside → Outside → Type 0
Opens file gate chunk result w v = (front : List ℕ) → length front ≡ gate → (disk w file).reads ≡ front ++ 0 ∷ []
    → IsDurable (disk w file) → Opened file front chunk result w v

-- ---- the file cut at the place of a gate, and the gate closed there

-- the front, and behind it the first bytes of what stood there, or one byte
abbrev pub IsRepaired : List ℕ → List ℕ → List ℕ → Type 0
IsRepaired front rest image =
    ((n : ℕ) × (image ≡ front ++ take n rest)) ⊎ ((gate : ℕ) × (image ≡ front ++ gate ∷ []))

pub record Repaired (file : Which) (front rest : List ℕ) (result : Result (Unit {0}) Failed) (w v : Outside) : Type 0
  where
    pub any_moment : LeavesOnly w v (LeavesFile file (IsRepaired front rest) w)
    pub done : OnOk result (disk v file ≡ settled (front ++ 0 ∷ []))
    pub others : disk v (other file) ≡ disk w (other file)
    pub output : v.output ≡ w.output

-- the file was a front and a rest, and nothing was pending
abbrev pub Repairs : Which → ℕ → Result (Unit {0}) Failed → Outside → Outside → Type 0
Repairs file gate result w v = (front rest : List ℕ) → length front ≡ gate → (disk w file).reads ≡ front ++ rest
    → IsDurable (disk w file) → Repaired file front rest result w v

-- ---- the file emptied, and a chunk behind an open gate

-- the first bytes of what stood there; or a gate alone; or a closed gate and whatever; or a gate and the whole chunk
abbrev pub IsReplaced : List ℕ → List ℕ → List ℕ → Type 0
IsReplaced was chunk image = ((n : ℕ) × (image ≡ take n was)) ⊎ ((gate : ℕ) × (image ≡ gate ∷ []))
    ⊎ ((tail : List ℕ) × (image ≡ 0 ∷ tail)) ⊎ ((gate : ℕ) × (image ≡ gate ∷ chunk))

pub record Replaced (file : Which) (chunk : List ℕ) (result : Result (Unit {0}) Failed) (w v : Outside) : Type 0 where
  pub any_moment : LeavesOnly w v (LeavesFile file (IsReplaced (disk w file).reads chunk) w)
  pub done : OnOk result (disk v file ≡ settled (1 ∷ chunk))
  pub others : disk v (other file) ≡ disk w (other file)
  pub output : v.output ≡ w.output

abbrev pub Replaces : Which → List ℕ → Result (Unit {0}) Failed → Outside → Outside → Type 0
Replaces file chunk result w v = IsDurable (disk w file) → Replaced file chunk result w v
