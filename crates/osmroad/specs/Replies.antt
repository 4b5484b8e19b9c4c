-- What a command prepares: nothing is put yet.
use Rattle.std.specs.Prelude.{◌≡◌, ◌⊎◌, ℕ, ◌<◌, List, ◌++◌, Option, Result, Ok, Err}
use Rattle.std.specs.Io.{StartsWith}
use Rattle.road_base.specs.History.{History}
use Rattle.road_base.specs.declared.ids.Sequence.{Sequence}
use Rattle.opl_objects.specs.declared.fault.Fault.{Fault}
use Rattle.road_io.specs.Told.{Told, Rose}
use Rattle.road_io.specs.Disk.{IsImage}
use Rattle.road_io.specs.Outside.{Outside, Left, LeavesOnly}
use Rattle.sequence_journal.specs.declared.error.JournalError.{JournalError}
use Rattle.sequence_journal.specs.declared.error.JournalError.TheVariants.{OutOfSequence as OutOfSequenceError}
use Rattle.sequence_journal.specs.declared.error.JournalError.TheVariants.{SiteFault as SiteFaultError}
use Rattle.sequence_journal.specs.declared.error.JournalError.TheVariants.{Damaged as DamagedError}
use Rattle.sequence_journal.specs.declared.error.JournalError.TheVariants.{NoStore as NoStoreError}
use Rattle.sequence_journal.specs.declared.error.JournalError.TheVariants.{StoreExists as StoreExistsError, TooLarge}
use Rattle.sequence_journal.specs.declared.error.JournalError.TheVariants.{NoMemory as NoMemoryError}
use Rattle.sequence_journal.specs.declared.journal.Journal.{Journal}
use Rattle.sequence_journal.specs.Adding.{IsNext}
use Rattle.osmroad.specs.declared.command.Command.{Command}
use Rattle.bounded_input.specs.declared.input.InputError.TheVariants.{Refused as RefusedInput}
use Rattle.last_words.specs.declared.words.LastWords.{LastWords}
use Rattle.last_words.specs.declared.words.Failure.{Failure}
use Rattle.last_words.specs.declared.words.Failure.TheVariants.{ReadFault, SiteFault, NoMemory}
use Rattle.last_words.specs.declared.status.Status.{Status}
use Rattle.last_words.specs.declared.status.Status.TheVariants.{OutOfSequence, NoStore, StoreExists}
use Rattle.last_words.specs.declared.status.Status.TheVariants.{Damaged, Limit}
use Rattle.last_words.specs.Texts.{limit_line}
use Rattle.last_words.specs.Replies.{Replies, RefusesInput}
use Rattle.osmroad.specs.Texts.{sequence_line, damaged_line}
use Rattle.osmroad.specs.Texts.{no_store_line, store_exists_line}
use Rattle.osmroad.specs.Outcomes.{Gives}
use Rattle.osmroad.specs.Stops.{LeftBy}
use Rattle.session.specs.Conversing.{HeldBytes}
use Rattle.osmroad.specs.Run.{IsReading, IsStored, IsReply, PassesFor, Reads, StandAfter, StandAsBefore, files_of}

-- ---- refusals

-- how a store is refused
abbrev pub RefusesStore : JournalError → Result LastWords Failure → Type 0
RefusesStore (OutOfSequenceError kept got) result = Replies OutOfSequence (sequence_line got.0 kept.0) result
RefusesStore SiteFaultError result = result ≡ Err SiteFault
RefusesStore (DamagedError file offset) result = Replies Damaged (damaged_line file offset) result
RefusesStore NoStoreError result = Replies NoStore no_store_line result
RefusesStore StoreExistsError result = Replies StoreExists store_exists_line result
RefusesStore TooLarge result = Replies Limit limit_line result
RefusesStore NoMemoryError result = result ≡ Err NoMemory

-- a change in fault is refused for its number first
abbrev pub RefusesChange : Journal → Sequence → Fault → Result LastWords Failure → Type 0
RefusesChange journal number fault result =
    (IsNext journal number × RefusesInput (RefusedInput fault) result)
    ⊎ ((IsNext journal number → ⊥) × RefusesStore (OutOfSequenceError journal.kept number) result)

-- ---- what is prepared

-- The status and the output are given, and the files are left as is said. A stop while the output is put leaves what
-- `LeftBy` says.
pub record WillPut (command : Option Command) (bytes read : List ℕ) (status : Status) (out : List ℕ)
    (before now : Option Outside) : Type 0 where
  pub replies : IsReply command status
  pub reads : Reads command (files_of before) status bytes read
  pub after : Option History
  pub gives : Gives command (files_of before) bytes status out after
  pub stand : Told (StandAfter command status after) before now
  pub last : Told (λ w v. (left : Left) → IsImage v.a left.a → IsImage v.b left.b
      → StartsWith (v.output ++ out) left.out → LeftBy command read w left) before now

abbrev pub WillFail : Option Command → List ℕ → Failure → Option Outside → Option Outside → Type 0
WillFail command read ReadFault before now =
    IsReading command × (PassesFor command read → ⊥) × Told StandAsBefore before now
WillFail command read SiteFault before now = IsStored command
WillFail command read NoMemory before now = Told StandAsBefore before now

abbrev pub IsPrepared : Option Command → List ℕ → List ℕ → Result LastWords Failure → Option Outside → Option Outside
    → Type 0
IsPrepared command bytes read (Ok r) before now = WillPut command bytes read r.status r.out.items before now
IsPrepared command bytes read (Err failure) before now = WillFail command read failure before now

-- What was read of the source, and what is to be put. The output is as it was.
pub record Prepares (command : Option Command) (result : Result LastWords Failure) (held remaining : Option (List ℕ))
    (before now : Option Outside) : Type 0 where
  pub bytes : List ℕ
  pub read : List ℕ
  pub behind : List ℕ
  pub all : bytes ≡ read ++ behind
  pub holds : HeldBytes bytes behind held remaining
  pub answer : IsPrepared command bytes read result before now
  pub silent : Told (λ w v. v.output ≡ w.output) before now
  pub only : Told (λ w v. LeavesOnly w v (LeftBy command read w)) before now

-- ---- faults

-- a fault of the source is answered exactly where it came
pub record CountsReads (before now : ℕ) (result : Result LastWords Failure) : Type 0 where
  pub cause : result ≡ Err ReadFault → Rose before now
  pub each : before < now → result ≡ Err ReadFault

-- a fault of the site is answered exactly where it came
pub record CountsCalls (before now : ℕ) (result : Result LastWords Failure) : Type 0 where
  pub cause : result ≡ Err SiteFault → Rose before now
  pub stays : (result ≡ Err SiteFault → ⊥) → now ≡ before
