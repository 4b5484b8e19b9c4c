-- What was put of what is last put.
use Rattle.std.specs.Prelude.{◌≡◌, ◌⊎◌, ℕ, List, ◌++◌, take, Option}
use Rattle.road_io.specs.Told.{Told, Rose}
use Rattle.road_io.specs.Outside.{Outside, extended}
use Rattle.last_words.specs.declared.status.Status.{Status}
use Rattle.last_words.specs.declared.status.Status.TheVariants.{SiteFault}

-- the output grew by these bytes
abbrev pub Grows : List ℕ → Option Outside → Option Outside → Type 0
Grows out = Told (λ before now. now.output ≡ before.output ++ out)

-- the output grew by a front of these bytes
abbrev pub GrowsInto : List ℕ → Option Outside → Option Outside → Type 0
GrowsInto out = Told (λ before now. (n : ℕ) × (now.output ≡ before.output ++ take n out))

-- How the last put ended: the status that was wanted, all of the chunk, and no fault; or a fault, a front of the chunk,
-- and a count that rose.
abbrev pub EndsPut : List ℕ → Status → Status → Option Outside → Option Outside → ℕ → ℕ → Type 0
EndsPut chunk wanted status before now faults_before faults_now =
    ((status ≡ wanted) × Grows chunk before now × (faults_now ≡ faults_before))
    ⊎ ((status ≡ SiteFault) × GrowsInto chunk before now × Rose faults_before faults_now)

-- nothing was done, or a front of the chunk was put
abbrev pub PutsSome : List ℕ → Outside → Outside → Type 0
PutsSome chunk before now = (now ≡ before) ⊎ ((n : ℕ) × (now ≡ extended (take n chunk) before))
