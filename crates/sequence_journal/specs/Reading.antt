-- What reading a file tells. It changes nothing.
use Rattle.std.specs.Prelude.{◌≡◌, ◌⊎◌, ℕ, ◌+◌, ◌<◌, ◌≤◌, ◌^◌, List, [], ◌∷◌, length, take, drop, Bool, true}
use Rattle.std.specs.Prelude.{false}
use Rattle.std.specs.Prelude.{Option, Some, None, Result, Ok, Err}
use Rattle.road_base.specs.History.{History, all_events, kept}
use Rattle.road_io.specs.declared.outside.Failed.{Failed}
use Rattle.road_io.specs.declared.outside.Which.{Which}
use Rattle.road_io.specs.Outside.{Outside, Quiet, disk}
use Rattle.sequence_journal.specs.declared.error.JournalError.{JournalError}
use Rattle.sequence_journal.specs.declared.error.JournalError.TheVariants.{SiteFault, Damaged, NoStore, TooLarge}
use Rattle.sequence_journal.specs.declared.error.JournalError.TheVariants.{NoMemory}
use Rattle.sequence_journal.specs.declared.heads.BaseHead.{BaseHead}
use Rattle.sequence_journal.specs.declared.heads.FoundBase.{FoundBase}
use Rattle.sequence_journal.specs.declared.layout.Fields.{Fields}
use Rattle.sequence_journal.specs.declared.window.Window.{Window}
use Rattle.sequence_journal.specs.declared.whole_file.ReadHistory.{ReadHistory}
use Rattle.sequence_journal.specs.Layout.{Base, BaseIsOpen, NoBase, HasBase, RecordIsOpen, IsClosed, head_bytes}
use Rattle.sequence_journal.specs.Fields.{HeadFits}
use Rattle.sequence_journal.specs.Windows.{seen}
use Rattle.sequence_journal.specs.Standing.{BeginsWith, DamagedAt, history_bytes}

-- ---- parts of a file

-- the front of the buffer has the file's bytes from a place on, as many as there are, and as there is room for
abbrev pub IsFilled : ℕ → List ℕ → List ℕ → Result ℕ Failed → Type 0
IsFilled at reads buf (Ok n) = take n buf ≡ take (length buf) (drop at reads)
IsFilled at reads buf (Err e) = Unit {0}

pub record Fills (file : Which) (at : ℕ) (buf : List ℕ) (result : Result ℕ Failed) (w v : Outside) : Type 0 where
  pub quiet : Quiet w v
  pub answer : IsFilled at (disk w file).reads buf result

-- ---- the base

-- the file has this length and begins with this head, and the bytes that the head announces lie in it
pub record IsFound (reads : List ℕ) (f : FoundBase) : Type 0 where
  pub len : f.len ≡ length reads
  pub starts : take 37 reads ≡ head_bytes f.head.profile f.head.generation f.head.number f.head.size
  pub fits : HeadFits f.head.profile f.head.generation f.head.number f.head.size
  pub whole : 37 + f.head.size ≤ length reads

abbrev pub IsBaseSearch : List ℕ → Result (Option FoundBase) Failed → Type 0
IsBaseSearch reads (Ok (Some f)) = IsFound reads f
IsBaseSearch reads (Ok None) = NoBase reads
IsBaseSearch reads (Err e) = Unit {0}

pub record FindsBase (file : Which) (result : Result (Option FoundBase) Failed) (w v : Outside) : Type 0 where
  pub quiet : Quiet w v
  pub answer : IsBaseSearch (disk w file).reads result

-- the file has an open base with this generation, number and profile
pub record IsHeadOf (reads : List ℕ) (h : BaseHead) : Type 0 where
  pub base : Base
  pub rest : List ℕ
  pub is_open : BaseIsOpen reads base rest
  pub generation : h.generation ≡ base.generation
  pub number : h.base.0 ≡ base.number
  pub profile : h.profile ≡ base.profile

-- the answer of `head`: None exactly where the file has no open base
abbrev pub IsHead : List ℕ → Result (Option BaseHead) JournalError → Type 0
IsHead reads (Ok (Some h)) = IsHeadOf reads h
IsHead reads (Ok None) = NoBase reads
IsHead reads (Err e) = e ≡ SiteFault

pub record Heads (file : Which) (result : Result (Option BaseHead) JournalError) (w v : Outside) : Type 0 where
  pub quiet : Quiet w v
  pub answer : IsHead (disk w file).reads result

-- ---- a record

-- The fields of the open record whose gate is at a place of the file, None exactly where none is open there. The window
-- shows its bytes.
abbrev pub IsRecordAt : ℕ → List ℕ → Window → Result (Option Fields) JournalError → Type 0
IsRecordAt at reads window (Ok (Some f)) = RecordIsOpen (drop at reads)
    (record { number = f.number; bytes = seen window (at + 17) f.size }) (drop (at + (17 + f.size)) reads)
    × (length (seen window (at + 17) f.size) ≡ f.size)
IsRecordAt at reads window (Ok None) = IsClosed (drop at reads)
IsRecordAt at reads window (Err e) = (e ≡ SiteFault) ⊎ (e ≡ NoMemory)

pub record ReadsRecord (file : Which) (len at : ℕ) (window : Window) (result : Result (Option Fields) JournalError)
    (w v : Outside) : Type 0 where
  pub quiet : Quiet w v
  pub answer : len ≡ length (disk w file).reads → IsRecordAt at (disk w file).reads window result

-- ---- the whole file

-- what a call that reads a file may refuse it with; damage is that of the same file
abbrev pub IsReadError : Which → JournalError → Type 0
IsReadError file NoStore = Unit {0}
IsReadError file TooLarge = Unit {0}
IsReadError file (Damaged f offset) = f ≡ file
IsReadError file SiteFault = Unit {0}
IsReadError file NoMemory = Unit {0}
IsReadError file e = ⊥

-- Up to a gate the file is a history. Its profile, events, kept number and the place of that gate are these.
pub record IsReadSoFar (reads : List ℕ) (r : ReadHistory) : Type 0 where
  pub history : History
  pub begins : BeginsWith reads r.generation history (drop r.gate reads)
  pub events : r.events.items ≡ all_events history
  pub last : r.kept ≡ kept history
  pub profile : r.profile ≡ history.profile
  pub gate : r.gate ≡ length (history_bytes r.generation history)
  pub len : r.len ≡ length reads

-- Why a file isn't loaded: it has no open base; or it has one and is too large; or it is damaged and not too large. A
-- fault of the site and want of memory say nothing of the file.
abbrev pub IsRefused : Which → List ℕ → JournalError → Type 0
IsRefused file reads NoStore = NoBase reads
IsRefused file reads TooLarge = HasBase reads × (2 ^ 40 < length reads)
IsRefused file reads (Damaged f offset) = (f ≡ file) × DamagedAt reads offset × (length reads ≤ 2 ^ 40)
IsRefused file reads SiteFault = Unit {0}
IsRefused file reads NoMemory = Unit {0}
IsRefused file reads e = ⊥

abbrev pub IsBaseRead : Which → List ℕ → Result ReadHistory JournalError → Type 0
IsBaseRead file reads (Ok r) = IsReadSoFar reads r
IsBaseRead file reads (Err e) = IsRefused file reads e

pub record ReadsBase (file : Which) (f : FoundBase) (result : Result ReadHistory JournalError) (w v : Outside) : Type
    0 where
  pub quiet : Quiet w v
  pub answer : IsFound (disk w file).reads f → length (disk w file).reads ≤ 2 ^ 40
      → IsBaseRead file (disk w file).reads result

-- one record more was read, or none is open there
abbrev pub IsNextRead : Which → List ℕ → ReadHistory → ReadHistory → Result Bool JournalError → Type 0
IsNextRead file reads old new (Ok true) = IsReadSoFar reads new
IsNextRead file reads old new (Ok false) = (new ≡ old) × IsClosed (drop old.gate reads)
IsNextRead file reads old new (Err e) = IsRefused file reads e

pub record ReadsNext (file : Which) (old new : ReadHistory) (result : Result Bool JournalError) (w v : Outside) :
    Type 0 where
  pub quiet : Quiet w v
  pub answer : IsReadSoFar (disk w file).reads old → length (disk w file).reads ≤ 2 ^ 40
      → IsNextRead file (disk w file).reads old new result

-- the file is read up to the first gate behind which no record is open, and isn't too large
pub record IsRead (reads : List ℕ) (r : ReadHistory) : Type 0 where
  pub so_far : IsReadSoFar reads r
  pub closed : IsClosed (drop r.gate reads)
  pub small : length reads ≤ 2 ^ 40

abbrev pub IsJudged : Which → List ℕ → Result ReadHistory JournalError → Type 0
IsJudged file reads (Ok r) = IsRead reads r
IsJudged file reads (Err e) = IsRefused file reads e

pub record Judges (file : Which) (result : Result ReadHistory JournalError) (w v : Outside) : Type 0 where
  pub quiet : Quiet w v
  pub answer : IsJudged file (disk w file).reads result

-- whether behind a place stands one closed gate and nothing else
abbrev pub IsEndTest : ℕ → List ℕ → Result Bool Failed → Type 0
IsEndTest at reads (Ok true) = drop at reads ≡ 0 ∷ []
IsEndTest at reads (Ok false) = drop at reads ≡ 0 ∷ [] → ⊥
IsEndTest at reads (Err e) = Unit {0}

pub record TestsEnd (file : Which) (len at : ℕ) (result : Result Bool Failed) (w v : Outside) : Type 0 where
  pub quiet : Quiet w v
  pub answer : len ≡ length (disk w file).reads → IsEndTest at (disk w file).reads result
