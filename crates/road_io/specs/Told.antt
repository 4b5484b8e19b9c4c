-- What an object tells, and how often its calls failed.
use Rattle.std.specs.Prelude.{◌≡◌, ◌⊎◌, ℕ, ◌+◌, ◌-◌, ◌^◌, ◌<◌, ◌≤◌, min, Option, None, Some}
use Rattle.std.specs.Prelude.{Result, Ok, Err, IsOk, IsErr}

-- An object that tells goes on telling, and what it tells changes so. One that doesn't never begins to.
abbrev pub Told : {W : Type 0} → (W → W → Type 0) → Option W → Option W → Type 0
Told R None None = Unit {0}
Told R None (Some v) = ⊥
Told R (Some w) None = ⊥
Told R (Some w) (Some v) = R w v

-- one more, but a u64 stands still at its end
abbrev pub one_more : ℕ → ℕ
one_more n = min (n + 1) (2 ^ 64 - 1)

-- the count after a call that counts its own failure, and nothing else
abbrev pub faults_after : {T E : Type 0} → Result T E → ℕ → ℕ
faults_after (Ok value) n = n
faults_after (Err error) n = one_more n

-- The count rose. One that stands at the end of a u64 counts as risen, since it stands still there.
abbrev pub Rose : ℕ → ℕ → Type 0
Rose before now = (before < now) ⊎ (2 ^ 64 - 1 ≤ now)

-- The count doesn't fall. A call fails only where it rose, and one that is Ok leaves it as it was: so whoever looks
-- at the count before and after sees each call that failed.
pub record Counts {T E : Type 0} (before now : ℕ) (result : Result T E) : Type 0 where
  pub never_falls : before ≤ now
  pub cause : IsErr result → Rose before now
  pub stays : IsOk result → now ≡ before
