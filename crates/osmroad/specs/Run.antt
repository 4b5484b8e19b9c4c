-- How a run ends: what was read and put, for what the files then stand, and what a stop leaves.
use Rattle.std.specs.Prelude.{◌≡◌, ◌⊎◌, ℕ, ◌+◌, ◌≤◌, ◌^◌, List, [], ◌++◌, length, Option, None, Some}
use Rattle.std.specs.Prelude.{IfSome}
use Rattle.std.specs.FinMap.{empty}
use Rattle.road_base.specs.declared.event.Event.{Event}
use Rattle.road_base.specs.History.{History, HasObjects, kept}
use Rattle.road_base.specs.Objects.{Objects}
use Rattle.road_base.specs.Applying.{IsApplied}
use Rattle.opl_lexer.specs.declared.mode.Mode.TheVariants.{Extract, Change}
use Rattle.opl_lexer.specs.Reading.{ReadAll}
use Rattle.road_model.specs.Format.{IsGraphFile}
use Rattle.road_model.specs.Highways.{highways}
use Rattle.road_io.specs.Told.{Told}
use Rattle.road_io.specs.declared.outside.Which.{Which}
use Rattle.road_io.specs.Outside.{Outside, LeavesOnly, other}
use Rattle.sequence_journal.specs.Standing.{DamagedAt}
use Rattle.store_switch.specs.LiveFile.{IsLive, NoBases, reads_of}
use Rattle.store_switch.specs.TwoFiles.{StandOn, StandFor, CanBeLoaded}
use Rattle.store_switch.specs.StoreLoading.{StillRead}
use Rattle.session.specs.Conversing.{HeldBytes}
use Rattle.osmroad.specs.declared.command.Command.{Command}
use Rattle.osmroad.specs.declared.command.Command.TheVariants.{Compile, Inspect, Sample, Create, Apply}
use Rattle.osmroad.specs.declared.command.Command.TheVariants.{Graph, Audit, Checkpoint}
use Rattle.last_words.specs.declared.status.Status.{Status}
use Rattle.last_words.specs.declared.status.Status.TheVariants.{Done, Usage, ReadFault, SiteFault, Refused, Limit}
use Rattle.last_words.specs.declared.status.Status.TheVariants.{NoMemory, OutOfSequence, NoStore, StoreExists, Damaged}
use Rattle.bounded_input.specs.Limits.{PassesLimit, PassesAtLast, HasTooManyBytes}
use Rattle.last_words.specs.Puts.{Grows, GrowsInto}
use Rattle.osmroad.specs.Opening.{Files, IsStore, size_with_change}
use Rattle.osmroad.specs.Checkpoints.{AreItsEntries, HasNoRoom}
use Rattle.osmroad.specs.Outcomes.{Gives, AreInput}
use Rattle.osmroad.specs.Stops.{LeftBy}

-- ---- kinds of commands

-- the words ask something
abbrev pub IsAsked : Option Command → Type 0
IsAsked None = ⊥
IsAsked (Some c) = Unit {0}

-- the command reads its source
abbrev pub IsReading : Option Command → Type 0
IsReading None = ⊥
IsReading (Some (Compile n)) = Unit {0}
IsReading (Some Inspect) = Unit {0}
IsReading (Some (Sample n)) = ⊥
IsReading (Some (Create n)) = Unit {0}
IsReading (Some (Apply n)) = Unit {0}
IsReading (Some (Graph moment)) = ⊥
IsReading (Some Audit) = ⊥
IsReading (Some (Checkpoint base)) = ⊥

-- the command works on a store; any other one touches no file
abbrev pub IsStored : Option Command → Type 0
IsStored None = ⊥
IsStored (Some (Compile n)) = ⊥
IsStored (Some Inspect) = ⊥
IsStored (Some (Sample n)) = ⊥
IsStored (Some (Create n)) = Unit {0}
IsStored (Some (Apply n)) = Unit {0}
IsStored (Some (Graph moment)) = Unit {0}
IsStored (Some Audit) = Unit {0}
IsStored (Some (Checkpoint base)) = Unit {0}

-- the statuses with which a command puts something
abbrev pub IsReply : Option Command → Status → Type 0
IsReply None status = status ≡ Usage
IsReply (Some (Compile n)) status = (status ≡ Done) ⊎ (status ≡ Refused) ⊎ (status ≡ Limit)
IsReply (Some Inspect) status = (status ≡ Done) ⊎ (status ≡ Refused) ⊎ (status ≡ Limit)
IsReply (Some (Sample n)) status = status ≡ Done
IsReply (Some (Create n)) status =
    (status ≡ Done) ⊎ (status ≡ Refused) ⊎ (status ≡ Limit) ⊎ (status ≡ StoreExists)
IsReply (Some (Apply n)) status = (status ≡ Done) ⊎ (status ≡ Refused) ⊎ (status ≡ OutOfSequence)
    ⊎ (status ≡ NoStore) ⊎ (status ≡ Damaged) ⊎ (status ≡ Limit)
IsReply (Some (Graph moment)) status = (status ≡ Done) ⊎ (status ≡ NoStore) ⊎ (status ≡ Damaged) ⊎ (status ≡ Limit)
IsReply (Some Audit) status = (status ≡ Done) ⊎ (status ≡ NoStore) ⊎ (status ≡ Damaged) ⊎ (status ≡ Limit)
IsReply (Some (Checkpoint base)) status =
    (status ≡ Done) ⊎ (status ≡ NoStore) ⊎ (status ≡ Damaged) ⊎ (status ≡ Limit)

-- Each status that a command may have, whatever source and site: one with which it puts something, or one by which a
-- fault of them or want of memory ends it.
abbrev pub MayEnd : Option Command → Status → Type 0
MayEnd command ReadFault = IsReading command
MayEnd command SiteFault = Unit {0}
MayEnd command NoMemory = IsAsked command
MayEnd command status = IsReply command status

-- ---- what the files say

-- the bytes of the files, where they are told
abbrev pub files_of : Option Outside → Option Files
files_of None = None
files_of (Some w) = Some (reads_of w)

-- The file that wasn't live holds this history, under the generation behind that of the other one, and is live now.
pub record HaveSwitched (h : History) (w v : Outside) : Type 0 where
  pub live : Which
  pub generation : ℕ
  pub old : History
  pub stood : StandOn live generation (reads_of w) old
  pub stand : StandOn (other live) (generation + 1) (reads_of v) h
  pub small : length (reads_of v (other live)) ≤ 2 ^ 40

-- The files stand for this history, or, where none is said, read as before. The next run can load them; of a new store
-- no limit is said. A checkpoint that is done, or a raise, has switched the files.
abbrev pub StandAfter : Option Command → Status → Option History → Outside → Outside → Type 0
StandAfter command status None w v = StillRead w v
StandAfter (Some (Create n)) status (Some h) w v = StandFor (reads_of v) h
StandAfter (Some (Checkpoint base)) Done (Some h) w v = HaveSwitched h w v
StandAfter command status (Some h) w v = CanBeLoaded (reads_of v) h

-- the files read as before, or they stand for the history for which they stood
abbrev pub StandAsBefore : Outside → Outside → Type 0
StandAsBefore w v = StillRead w v ⊎ ((h : History) × CanBeLoaded (reads_of w) h × CanBeLoaded (reads_of v) h)

-- ---- what was read

-- the limits on what a command reads
abbrev pub PassesFor : Option Command → List ℕ → Type 0
PassesFor (Some Inspect) read = HasTooManyBytes read
PassesFor command read = PassesLimit read

-- What was read at a limit: more than is allowed, and nothing behind the part in which the limit was passed; with a
-- change also all of it, where the store has no room for it, or nothing, where the live file is too large already.
abbrev pub ReadsToLimit : Option Command → List ℕ → List ℕ → Type 0
ReadsToLimit (Some (Apply n)) bytes read = PassesAtLast PassesLimit read ⊎ (read ≡ bytes) ⊎ (read ≡ [])
ReadsToLimit command bytes read = PassesAtLast (PassesFor command) read

-- What was read by a command that reads its source: all of the bytes, no more than the limits allow, or nothing, where
-- the files are looked at first. Where they aren't told, a store may appear while the source is read.
abbrev pub ReadsSource : Option Command → Option Files → Status → List ℕ → List ℕ → Type 0
ReadsSource command files Done bytes read = read ≡ bytes
ReadsSource command files Usage bytes read = read ≡ []
ReadsSource command files ReadFault bytes read = PassesFor command read → ⊥
ReadsSource command files SiteFault bytes read = Unit {0}
ReadsSource command files Refused bytes read = read ≡ bytes
ReadsSource command files OutOfSequence bytes read = read ≡ bytes
ReadsSource command files NoStore bytes read = read ≡ []
ReadsSource command files StoreExists bytes read = IfSome files (λ f. read ≡ [])
ReadsSource command files Damaged bytes read = read ≡ []
ReadsSource command files Limit bytes read = ReadsToLimit command bytes read
ReadsSource command files NoMemory bytes read = Unit {0}

-- any other command reads nothing
abbrev pub Reads : Option Command → Option Files → Status → List ℕ → List ℕ → Type 0
Reads None files status bytes read = read ≡ []
Reads (Some (Compile n)) files status bytes read = ReadsSource (Some (Compile n)) files status bytes read
Reads (Some Inspect) files status bytes read = ReadsSource (Some Inspect) files status bytes read
Reads (Some (Sample n)) files status bytes read = read ≡ []
Reads (Some (Create n)) files status bytes read = ReadsSource (Some (Create n)) files status bytes read
Reads (Some (Apply n)) files status bytes read = ReadsSource (Some (Apply n)) files status bytes read
Reads (Some (Graph moment)) files status bytes read = read ≡ []
Reads (Some Audit) files status bytes read = read ≡ []
Reads (Some (Checkpoint base)) files status bytes read = read ≡ []

-- ---- how a run ends

-- what is given was put whole, and the files are left as is said
pub record PutsAll (command : Option Command) (bytes : List ℕ) (status : Status)
    (before now : Option Outside) : Type 0 where
  pub out : List ℕ
  pub after : Option History
  pub gives : Gives command (files_of before) bytes status out after
  pub grows : Grows out before now
  pub stand : Told (StandAfter command status after) before now

-- a front of what is given was put, all of which rests on what was read
pub record PutsFront (command : Option Command) (bytes read : List ℕ) (before now : Option Outside) : Type 0 where
  pub status : Status
  pub out : List ℕ
  pub after : Option History
  pub reads : Reads command (files_of before) status bytes read
  pub gives : Gives command (files_of before) bytes status out after
  pub grows : GrowsInto out before now
  pub stand : Told (StandAfter command status after) before now

-- What was put, by the status. Nothing is put where the source fails or memory ends, nor where the site fails before
-- the last put.
abbrev pub EndsWith : Option Command → List ℕ → List ℕ → Status → Option Outside → Option Outside → Type 0
EndsWith command bytes read ReadFault before now = Grows [] before now × Told StandAsBefore before now
EndsWith command bytes read SiteFault before now =
    PutsFront command bytes read before now ⊎ (IsStored command × Grows [] before now)
EndsWith command bytes read NoMemory before now = Grows [] before now × Told StandAsBefore before now
EndsWith command bytes read status before now = PutsAll command bytes status before now

-- How a run ends: the bytes that the source held, those of them that were read, what was put, and what a stop at any
-- moment of the run leaves. Where the source tells nothing, these are some bytes that begin with those that were read.
pub record Ends (command : Option Command) (status : Status) (held remaining : Option (List ℕ))
    (before now : Option Outside) : Type 0 where
  pub bytes : List ℕ
  pub read : List ℕ
  pub behind : List ℕ
  pub all : bytes ≡ read ++ behind
  pub holds : HeldBytes bytes behind held remaining
  pub reads : Reads command (files_of before) status bytes read
  pub puts : EndsWith command bytes read status before now
  pub stops : Told (λ w v. LeavesOnly w v (LeftBy command read w)) before now

-- ---- what must be done

-- one file is live, has at most 2^40 bytes and isn't damaged
pub record IsReadable (files : Files) : Type 0 where
  pub live : Which
  pub is_live : IsLive live files
  pub small : length (files live) ≤ 2 ^ 40
  pub whole : (offset : ℕ) → DamagedAt (files live) offset → ⊥

-- the change has the number behind the kept one, and there is room for it, for whatever history the files stand
abbrev pub CanBeAdded : ℕ → List Event → Files → Type 0
CanBeAdded number events files = (s : IsStore files)
    → (number ≡ kept s.history + 1) × (size_with_change s.generation s.history events ≤ 2 ^ 40)

-- there is room for the store's entries in the other file, under the next generation
abbrev pub CanBeCheckpointed : Files → Type 0
CanBeCheckpointed files = (s : IsStore files) (events : List Event) → AreItsEntries s.history events
    → HasNoRoom s.generation events → ⊥

-- The words ask something, the bytes pass no limit and none of their lines is in fault, the files are as the command
-- needs them, and a file to be written keeps within its limit. A file to be inspected is a graph's.
abbrev pub CanBeDone : Option Command → Option Files → List ℕ → Type 0
CanBeDone None files bytes = ⊥
CanBeDone (Some (Compile n)) files bytes = (events : List Event) × AreInput Extract bytes events
CanBeDone (Some Inspect) files bytes = (HasTooManyBytes bytes → ⊥) × IsGraphFile bytes
CanBeDone (Some (Sample n)) files bytes = Unit {0}
CanBeDone (Some (Create n)) (Some files) bytes = NoBases files
    × (events : List Event) × AreInput Extract bytes events
CanBeDone (Some (Apply n)) (Some files) bytes = IsReadable files
    × (events : List Event) × AreInput Change bytes events × CanBeAdded n.0 events files
CanBeDone (Some (Graph moment)) (Some files) bytes = IsReadable files
CanBeDone (Some Audit) (Some files) bytes = IsReadable files
CanBeDone (Some (Checkpoint base)) (Some files) bytes = IsReadable files × CanBeCheckpointed files
CanBeDone command None bytes = ⊥

-- ---- how many blocks are built

-- No more blocks are built than there are visible ways with the key `highway` among the objects of which the graph is.
-- A sample builds those of eleven graphs, one after another, of which no bound is said. Other commands build none.
abbrev pub Builds : Option Command → Option (List ℕ) → Option Outside → ℕ → ℕ → Type 0
Builds (Some (Compile n)) held before old new = (bytes : List ℕ) (events : List Event) (objects : Objects)
    → held ≡ Some bytes → ReadAll Extract bytes events → IsApplied empty events objects
    → new ≤ old + length (highways objects)
Builds (Some (Graph moment)) held before old new = (w : Outside) (h : History) (objects : Objects)
    → before ≡ Some w → CanBeLoaded (reads_of w) h → HasObjects h objects
    → new ≤ old + length (highways objects)
Builds (Some (Sample n)) held before old new = Unit {0}
Builds command held before old new = new ≡ old
