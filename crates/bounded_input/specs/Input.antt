-- What was read of an input, and what it gave.
use Rattle.std.specs.Prelude.{◌≡◌, ℕ, List, [], Option, Some, None}
use Rattle.road_base.specs.declared.event.Event.{Event}
use Rattle.road_io.specs.Told.{Rose}
use Rattle.road_io.specs.Parts.{Took}
use Rattle.opl_lexer.specs.declared.mode.Mode.{Mode}
use Rattle.opl_lexer.specs.Reading.{ReadAll, input_fault}
use Rattle.opl_objects.specs.StreamLines.{fault_at}
use Rattle.bounded_input.specs.Limits.{PassesLimit, PassesAtLast}
use Rattle.bounded_input.specs.declared.input.InputError.{InputError}
use Rattle.bounded_input.specs.declared.input.InputError.TheVariants.{Failed, TooLong, Refused, NoMemory}

-- nothing is left, where it is told (`Took` says that it is told still)
abbrev pub Ended : Option (List ℕ) → Type 0
Ended None = Unit {0}
Ended (Some left) = left ≡ []

-- all bytes were read, they pass no limit, and they give these events
pub record ReadWhole (mode : Mode) (events : List Event) (before now : Option (List ℕ)) : Type 0 where
  pub bytes : List ℕ
  pub took : Took bytes before now
  pub ended : Ended now
  pub within : PassesLimit bytes → ⊥
  pub gives : ReadAll mode bytes events

-- Why an input isn't read: the source failed, and no limit is passed; the last part passes a limit; all was read, no
-- limit is passed, and this is the first fault; memory ended.
abbrev pub Cause : Mode → InputError → List ℕ → Option (List ℕ) → ℕ → ℕ → Type 0
Cause mode Failed read now faults_before faults_now = Rose faults_before faults_now × (PassesLimit read → ⊥)
Cause mode TooLong read now faults_before faults_now = PassesAtLast PassesLimit read
Cause mode (Refused fault) read now faults_before faults_now =
    Ended now × (PassesLimit read → ⊥) × (input_fault mode read ≡ Some (fault_at fault))
Cause mode NoMemory read now faults_before faults_now = Unit {0}

-- all was read, and this is its first fault; or memory ended
abbrev pub IsRefusal : Mode → List ℕ → InputError → Type 0
IsRefusal mode read Failed = ⊥
IsRefusal mode read TooLong = ⊥
IsRefusal mode read (Refused fault) = input_fault mode read ≡ Some (fault_at fault)
IsRefusal mode read NoMemory = Unit {0}

-- some bytes were read, and then the input wasn't read on for this cause
pub record Stopped (mode : Mode) (error : InputError) (before now : Option (List ℕ))
    (faults_before faults_now : ℕ) : Type 0 where
  pub read : List ℕ
  pub took : Took read before now
  pub cause : Cause mode error read now faults_before faults_now
