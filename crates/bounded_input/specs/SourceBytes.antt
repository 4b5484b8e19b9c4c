-- What was read of a source whose bytes are kept, as a graph file's.
use Rattle.std.specs.Prelude.{ℕ, List, Option}
use Rattle.road_io.specs.Told.{Rose}
use Rattle.bounded_input.specs.Input.{Ended}
use Rattle.road_io.specs.Parts.{Took}
use Rattle.bounded_input.specs.Limits.{HasTooManyBytes, PassesAtLast}
use Rattle.bounded_input.specs.declared.input.InputError.{InputError}
use Rattle.bounded_input.specs.declared.input.InputError.TheVariants.{Failed, TooLong, Refused, NoMemory}

-- all bytes were read, and there aren't too many of them
pub record Gathered (bytes : List ℕ) (before now : Option (List ℕ)) : Type 0 where
  pub took : Took bytes before now
  pub ended : Ended now
  pub within : HasTooManyBytes bytes → ⊥

-- why they aren't read: the source failed, and there aren't too many; with the last part there are
-- too many; memory ended
abbrev pub GatherCause : InputError → List ℕ → ℕ → ℕ → Type 0
GatherCause Failed read faults_before faults_now = Rose faults_before faults_now × (HasTooManyBytes read → ⊥)
GatherCause TooLong read faults_before faults_now = PassesAtLast HasTooManyBytes read
GatherCause (Refused fault) read faults_before faults_now = ⊥
GatherCause NoMemory read faults_before faults_now = Unit {0}

-- some bytes were read, and then no more for this cause
pub record GatherStopped (error : InputError) (before now : Option (List ℕ))
    (faults_before faults_now : ℕ) : Type 0 where
  pub read : List ℕ
  pub took : Took read before now
  pub cause : GatherCause error read faults_before faults_now
