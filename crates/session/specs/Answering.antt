-- What the answer to one message leaves.
use Rattle.std.specs.Prelude.{◌≡◌, ℕ, List, ◌++◌, take, Result, Ok, Err}
use Rattle.road_io.specs.Told.{Rose}
use Rattle.road_io.specs.Outside.{Outside, LeavesOnly}
use Rattle.sequence_journal.specs.declared.error.JournalError.{JournalError}
use Rattle.sequence_journal.specs.declared.error.JournalError.TheVariants.{OutOfSequence, Damaged, NoStore, StoreExists}
use Rattle.sequence_journal.specs.declared.error.JournalError.TheVariants.{SiteFault as SiteFaultError, TooLarge}
use Rattle.sequence_journal.specs.declared.error.JournalError.TheVariants.{NoMemory as NoMemoryError}
use Rattle.session_input.specs.Messages.{Message}
use Rattle.session_answers.specs.Replies.{Replies}
use Rattle.session.specs.declared.stop.Stop.{Stop}
use Rattle.session.specs.declared.stop.Stop.TheVariants.{SiteFault, Limit, NoMemory}
use Rattle.session.specs.Conversation.{Kept, Replied, IsFull}
use Rattle.session.specs.Conversing.{Keeps, LeavesReply}

-- a reply to the message was put, and the files stand for what is kept then
pub record IsAnswered {B : Type 0} (R : Replies B) (from : Kept B) (message : Message) (Has : Keeps B) (w v : Outside)
    : Type 0 where
  pub reply : List ℕ
  pub to : Kept B
  pub replied : Replied R from message reply to
  pub kept : Has to v
  pub grows : v.output ≡ w.output ++ reply
  pub only : LeavesOnly w v (LeavesReply from to w.output reply)

-- a front of a reply to the message was put
pub record IsCutShort {B : Type 0} (R : Replies B) (from : Kept B) (message : Message) (w v : Outside) : Type 0 where
  pub reply : List ℕ
  pub to : Kept B
  pub replied : Replied R from message reply to
  pub n : ℕ
  pub grows : v.output ≡ w.output ++ take n reply
  pub only : LeavesOnly w v (LeavesReply from to w.output reply)

-- The answer to a message, behind which `Has` says what is kept. Nothing is done where there is no room for a frame, or
-- memory ends.
abbrev pub Answers : {B : Type 0} → Replies B → Kept B → Message → (Has : Keeps B) → Result (Unit {0}) Stop → Outside
    → Outside → Type 0
Answers {B} R from message Has (Ok x) w v = IsAnswered R from message Has w v
Answers {B} R from message Has (Err SiteFault) w v = IsCutShort R from message w v
Answers {B} R from message Has (Err Limit) w v = IsFull from message × (v ≡ w)
Answers {B} R from message Has (Err NoMemory) w v = v ≡ w

-- what a refusal of the journal comes to
abbrev pub stop_of : JournalError → Stop
stop_of (OutOfSequence kept got) = NoMemory
stop_of SiteFaultError = SiteFault
stop_of (Damaged file offset) = NoMemory
stop_of NoStore = NoMemory
stop_of StoreExists = NoMemory
stop_of TooLarge = Limit
stop_of NoMemoryError = NoMemory

-- a fault of the site stops it exactly where it came
pub record CountsStops {T : Type 0} (before now : ℕ) (result : Result T Stop) : Type 0 where
  pub cause : result ≡ Err SiteFault → Rose before now
  pub stays : (result ≡ Err SiteFault → ⊥) → now ≡ before
