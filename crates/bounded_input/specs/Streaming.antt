-- What a stream of events gave, and why one isn't read on.
use Rattle.std.specs.Prelude.{◌≡◌, ◌⊎◌, ◌++◌, ℕ, List, Option, Some}
use Rattle.road_base.specs.declared.event.Event.{Event}
use Rattle.road_io.specs.Told.{Rose}
use Rattle.road_io.specs.Parts.{Took}
use Rattle.opl_lexer.specs.declared.mode.Mode.{Mode}
use Rattle.opl_lexer.specs.Reading.{FaultAt, ReadAll, ended_fault, input_fault}
use Rattle.opl_objects.specs.StreamLines.{fault_at}
use Rattle.bounded_input.specs.Limits.{PassesStreamLimit, PassesAtLast}
use Rattle.bounded_input.specs.Input.{Ended}
use Rattle.bounded_input.specs.declared.input.InputError.{InputError}
use Rattle.bounded_input.specs.declared.input.InputError.TheVariants.{Failed, TooLong, Refused, NoMemory}

-- whatever was taken before, these events were taken behind it
abbrev pub TakesMore : (List Event → Type 0) → (List Event → Type 0) → List Event → Type 0
TakesMore Before Now more = (taken : List Event) → Before taken → Now (taken ++ more)

-- all bytes were read, they pass no limit of a stream, and the events that they give were taken
pub record IsStreamed (mode : Mode) (AreTaken : List Event → Type 0) (before now : Option (List ℕ)) : Type 0 where
  pub bytes : List ℕ
  pub took : Took bytes before now
  pub ended : Ended now
  pub within : PassesStreamLimit bytes → ⊥
  pub events : List Event
  pub gives : ReadAll mode bytes events
  pub taken : AreTaken events

-- the first fault among the lines that have ended, which stays the first one however the input goes on; or all was
-- read, and it is the first one of all lines
abbrev pub IsFirstFault : Mode → List ℕ → Option (List ℕ) → FaultAt → Type 0
IsFirstFault mode read now fault =
    (ended_fault mode read ≡ Some fault) ⊎ (Ended now × (input_fault mode read ≡ Some fault))

-- Why a stream isn't read on: the source failed, and no limit is passed; the last part passes a limit; no limit is
-- passed, and this is the first fault; memory ended.
abbrev pub StreamCause : Mode → InputError → List ℕ → Option (List ℕ) → ℕ → ℕ → Type 0
StreamCause mode Failed read now faults_before faults_now =
    Rose faults_before faults_now × (PassesStreamLimit read → ⊥)
StreamCause mode TooLong read now faults_before faults_now = PassesAtLast PassesStreamLimit read
StreamCause mode (Refused fault) read now faults_before faults_now =
    (PassesStreamLimit read → ⊥) × IsFirstFault mode read now (fault_at fault)
StreamCause mode NoMemory read now faults_before faults_now = Unit {0}

-- some bytes were read, and then the stream wasn't read on for this cause
pub record StreamStopped (mode : Mode) (error : InputError) (before now : Option (List ℕ))
    (faults_before faults_now : ℕ) : Type 0 where
  pub read : List ℕ
  pub took : Took read before now
  pub cause : StreamCause mode error read now faults_before faults_now
