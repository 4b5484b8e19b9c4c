-- What is known of a session's input as far as it was read, and what its parts give.
use Rattle.std.specs.Prelude.{◌≡◌, ◌≢◌, ◌⊎◌, ℕ, List, [], ◌∷◌, ◌++◌, Some}
use Rattle.road_base.specs.declared.ids.Sequence.{Sequence}
use Rattle.opl_lexer.specs.Letters.{newline}
use Rattle.opl_lexer.specs.declared.mode.Mode.TheVariants.{Change as ChangeMode}
use Rattle.opl_lexer.specs.Reading.{ReadAll, input_fault}
use Rattle.opl_objects.specs.StreamLines.{fault_at}
use Rattle.session_input.specs.declared.line.Line.{Line as LineText}
use Rattle.session_input.specs.declared.received.Received.{Received}
use Rattle.session_input.specs.declared.received.Received.TheVariants.{Line as LineReceived, Frame as FrameReceived}
use Rattle.session_input.specs.declared.received.InputEnd.{InputEnd}
use Rattle.session_input.specs.declared.received.InputEnd.TheVariants.{Done, Last, Unfinished}
use Rattle.session_input.specs.declared.received.Change.{Change}
use Rattle.session_input.specs.declared.received.Change.TheVariants.{Events, Faulty}
use Rattle.session_input.specs.declared.received.InputStop.{InputStop}
use Rattle.session_input.specs.declared.received.InputStop.TheVariants.{TooLong, NoMemory}
use Rattle.session_input.specs.Messages.{Message, Line, Frame, BeginsFrame, IsMessage}
use Rattle.session_input.specs.Texts.{text_of}
use Rattle.session_input.specs.Limits.{IsTaken, IsStopped}

-- the lines of a frame as a change: its events, or its first fault, by lines of the frame from 1 on
abbrev pub IsChange : List ℕ → Change → Type 0
IsChange body (Events events) = ReadAll ChangeMode body events.items
IsChange body (Faulty fault) = input_fault ChangeMode body ≡ Some (fault_at fault)

-- what was received is the message
pub data Means : Message → Received → Type 0 where
  OfLine : (line : LineText) → Means (Line (text_of line)) (LineReceived line)
  OfFrame : (number : Sequence) (body : List ℕ) (change : Change) → IsChange body change
      → Means (Frame number.0 body) (FrameReceived number change)

-- some message was received, which these bytes are
pub record Receives (before : ℕ) (received : Received) (bytes : List ℕ) : Type 0 where
  pub message : Message
  pub taken : IsTaken before message bytes
  pub means : Means message received

-- a limit is passed, or memory ended
abbrev pub StopsAt : InputStop → ℕ → List ℕ → Type 0
StopsAt TooLong before bytes = IsStopped before bytes
StopsAt NoMemory before bytes = Unit {0}

-- Where the input ends behind these bytes: there are none; or, since a last line that has a byte ends there, they are
-- one message more; or a frame isn't ended.
abbrev pub IsEnding : List ℕ → InputEnd → Type 0
IsEnding open_bytes Done = open_bytes ≡ []
IsEnding open_bytes (Last received) = (open_bytes ≢ []) × ((message : Message)
    × IsMessage message (open_bytes ++ newline ∷ []) × Means message received)
IsEnding open_bytes (Unfinished number) = (body front : List ℕ) × BeginsFrame number.0 body front
    × ((front ≡ open_bytes) ⊎ (front ≡ open_bytes ++ newline ∷ []))
