-- The messages of a session in order: what is replied to each, and what is kept then.
use Rattle.std.specs.Prelude.{◌≡◌, ◌≢◌, ℕ, ◌+◌, ◌-◌, ◌<◌, ◌≤◌, ◌^◌, List, [], ◌++◌, length, Option, Some}
use Rattle.road_base.specs.declared.event.Event.{Event}
use Rattle.road_base.specs.History.{History, kept, with_change}
use Rattle.object_codec.specs.Spelling.{events_bytes}
use Rattle.opl_lexer.specs.declared.mode.Mode.TheVariants.{Change}
use Rattle.opl_lexer.specs.Reading.{FaultAt, ReadAll, input_fault}
use Rattle.session_input.specs.Messages.{Message, Line, Frame}
use Rattle.session_input.specs.Limits.{IsTaken}
use Rattle.session_answers.specs.Replies.{Replies}
use Rattle.session_answers.specs.Texts.{applied_line, refused_sequence_line, refused_fault_line}

-- ---- what is kept

-- a history, what stands beside it, and how many bytes its file has room for
pub record Kept (B : Type 0) : Type 0 where
  pub history : History
  pub beside : B
  pub room : ℕ

-- The room of a file whose next gate stands at this place: it has at most 2^40 bytes, the gate among them.
abbrev pub room_at : ℕ → ℕ
room_at gate = 2 ^ 40 - (gate + 1)

-- how many bytes the record of these events takes
abbrev pub record_size : List Event → ℕ
record_size events = 17 + length (events_bytes events)

-- with one more change
abbrev pub with_record : {B : Type 0} → Kept B → List Event → Kept B
with_record {B} from events = record {
  history = with_change from.history events;
  beside = from.beside;
  room = from.room - record_size events;
}

-- with something else beside the history
abbrev pub with_beside : {B : Type 0} → Kept B → B → Kept B
with_beside {B} from beside = record { history = from.history; beside = beside; room = from.room }

-- ---- one message

-- a reply to a line with this text, and what is kept then: the line leaves the history as it is
pub record LineReplied {B : Type 0} (R : Replies B) (from : Kept B) (text : Option (List ℕ)) (out : List ℕ)
    (to : Kept B) : Type 0 where
  pub beside : B
  pub is : R from.history from.beside text out beside
  pub leaves : to ≡ with_beside from beside

-- the frame has the next number, its lines give these events, and there is room for them
pub record IsAccepted {B : Type 0} (from : Kept B) (number : ℕ) (body : List ℕ) (events : List Event) : Type 0 where
  pub next : number ≡ kept from.history + 1
  pub gives : ReadAll Change body events
  pub fits : record_size events ≤ from.room

-- A reply to a frame, and what is kept then. Its number is looked at first, then its first fault. A refused frame
-- changes nothing.
pub data FrameReplied {B : Type 0} (from : Kept B) (number : ℕ) (body out : List ℕ) (to : Kept B) : Type 0 where
  Accepted : (events : List Event) → IsAccepted from number body events → out ≡ applied_line number
      → to ≡ with_record from events → FrameReplied from number body out to
  OutOfSequence : number ≢ kept from.history + 1 → out ≡ refused_sequence_line number (kept from.history)
      → to ≡ from → FrameReplied from number body out to
  Faulty : number ≡ kept from.history + 1 → (fault : FaultAt) → input_fault Change body ≡ Some fault
      → out ≡ refused_fault_line number fault → to ≡ from → FrameReplied from number body out to

-- a reply to a message, and what is kept then
abbrev pub Replied : {B : Type 0} → Replies B → Kept B → Message → List ℕ → Kept B → Type 0
Replied {B} R from (Line text) out to = LineReplied R from text out to
Replied {B} R from (Frame number body) out to = FrameReplied from number body out to

-- a frame that is otherwise accepted needs more room than is left
pub record IsTooLarge {B : Type 0} (from : Kept B) (number : ℕ) (body : List ℕ) : Type 0 where
  pub next : number ≡ kept from.history + 1
  pub events : List Event
  pub gives : ReadAll Change body events
  pub full : from.room < record_size events

abbrev pub IsFull : {B : Type 0} → Kept B → Message → Type 0
IsFull {B} from (Line text) = ⊥
IsFull {B} from (Frame number body) = IsTooLarge from number body

-- ---- all messages

-- The bytes are whole messages, each within the limits; these are their replies, joined, and this is kept then.
pub data Conversed {B : Type 0} (R : Replies B) (opening : Kept B) : List ℕ → List ℕ → Kept B → Type 0 where
  Start : Conversed R opening [] [] opening
  Go : (front said : List ℕ) (from : Kept B) (message : Message) (taken reply bytes out : List ℕ) (to : Kept B)
      → Conversed R opening front said from
      → IsTaken (length front) message taken → Replied R from message reply to
      → bytes ≡ front ++ taken → out ≡ said ++ reply → Conversed R opening bytes out to
