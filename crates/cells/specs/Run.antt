-- How a run ends: what was read and put.
use Rattle.std.specs.Prelude.{◌≡◌, ◌⊎◌, ℕ, ◌+◌, ◌≤◌, List, [], ◌++◌, length, Option, None, Some}
use Rattle.std.specs.FinMap.{empty}
use Rattle.road_base.specs.declared.event.Event.{Event}
use Rattle.road_base.specs.declared.ids.WayId.{WayId}
use Rattle.road_base.specs.Objects.{Objects}
use Rattle.road_base.specs.Applying.{IsApplied}
use Rattle.ordered_lists.specs.Orders.{Lists}
use Rattle.road_model.specs.Orders.{way_cmp}
use Rattle.road_model.specs.Format.{IsGraphFile}
use Rattle.opl_lexer.specs.declared.mode.Mode.TheVariants.{Extract}
use Rattle.opl_lexer.specs.Reading.{ReadAll}
use Rattle.road_io.specs.Outside.{Outside}
use Rattle.road_io.specs.Told.{Told}
use Rattle.bounded_input.specs.Limits.{PassesLimit, PassesStreamLimit, PassesAtLast, HasTooManyBytes}
use Rattle.last_words.specs.declared.status.Status.{Status}
use Rattle.last_words.specs.declared.status.Status.TheVariants.{Done, Usage, ReadFault, SiteFault, Refused, Limit}
use Rattle.last_words.specs.declared.status.Status.TheVariants.{NoMemory, OutOfSequence, NoStore, StoreExists, Damaged}
use Rattle.last_words.specs.Puts.{Grows, GrowsInto}
use Rattle.graph_merge.specs.Merging.{IsMergeable}
use Rattle.cells.specs.declared.command.CutCell.{CutCell}
use Rattle.cells.specs.declared.command.MapCommand.{MapCommand}
use Rattle.cells.specs.declared.command.MapCommand.TheVariants.{Part, Rest, Cell, Ways}
use Rattle.cells.specs.declared.command.GraphCommand.TheVariants.{Range, Merge}
use Rattle.cells.specs.declared.command.Command.{Command}
use Rattle.cells.specs.declared.command.Command.TheVariants.{Plan, Map, Graphs}
use Rattle.cells.specs.Made.{IsOwnPassing}
use Rattle.cells.specs.Outcomes.{Gives}

-- ---- statuses

-- Each status that there may be, whatever source and site. A command answers none of a store.
abbrev pub MayEnd : Option Command → Status → Type 0
MayEnd None status = (status ≡ Usage) ⊎ (status ≡ SiteFault) ⊎ (status ≡ NoMemory)
MayEnd (Some command) status = (status ≡ Done) ⊎ (status ≡ Refused) ⊎ (status ≡ Limit) ⊎ (status ≡ ReadFault)
    ⊎ (status ≡ SiteFault) ⊎ (status ≡ NoMemory)

-- ---- what was read

-- the limits on what a command reads: a plan's text has no limit that a map reaches, but for its lines
abbrev pub PassesFor : Command → List ℕ → Type 0
PassesFor (Plan rule) read = PassesStreamLimit read
PassesFor (Map command) read = PassesLimit read
PassesFor (Graphs command) read = HasTooManyBytes read

-- What was read of bytes that are refused: all of them, or of a plan's text at least what has its first fault, and no
-- more than the limits allow.
abbrev pub ReadsRefused : Command → List ℕ → List ℕ → Type 0
ReadsRefused (Plan rule) bytes read = PassesStreamLimit read → ⊥
ReadsRefused (Map command) bytes read = read ≡ bytes
ReadsRefused (Graphs command) bytes read = read ≡ bytes

-- What was read of these bytes, by how it ended: all of them, no more than the limits allow, or more than is allowed
-- and nothing behind the part in which the limit was passed.
abbrev pub ReadsSource : Command → Status → List ℕ → List ℕ → Type 0
ReadsSource command Done bytes read = read ≡ bytes
ReadsSource command Usage bytes read = ⊥
ReadsSource command ReadFault bytes read = PassesFor command read → ⊥
ReadsSource command SiteFault bytes read = Unit {0}
ReadsSource command Refused bytes read = ReadsRefused command bytes read
ReadsSource command OutOfSequence bytes read = ⊥
ReadsSource command NoStore bytes read = ⊥
ReadsSource command StoreExists bytes read = ⊥
ReadsSource command Damaged bytes read = ⊥
ReadsSource command Limit bytes read = PassesAtLast (PassesFor command) read
ReadsSource command NoMemory bytes read = Unit {0}

-- words that are no command's read nothing
abbrev pub Reads : Option Command → Status → List ℕ → List ℕ → Type 0
Reads None status bytes read = read ≡ []
Reads (Some command) status bytes read = ReadsSource command status bytes read

-- ---- what was put

-- what is given was put whole
pub record PutsAll (command : Option Command) (bytes : List ℕ) (status : Status) (before now : Option Outside)
    : Type 0 where
  pub out : List ℕ
  pub gives : Gives command bytes status out
  pub grows : Grows out before now

-- a front of what is given was put, all of which rests on what was read
pub record PutsFront (command : Option Command) (bytes read : List ℕ) (before now : Option Outside) : Type 0 where
  pub status : Status
  pub out : List ℕ
  pub reads : Reads command status bytes read
  pub gives : Gives command bytes status out
  pub grows : GrowsInto out before now

-- What was put, by the status: all of what is given, a front of it where the site failed, and nothing where the source
-- failed or memory ended.
abbrev pub Puts : Option Command → List ℕ → List ℕ → Status → Option Outside → Option Outside → Type 0
Puts command bytes read ReadFault before now = Grows [] before now
Puts command bytes read SiteFault before now = PutsFront command bytes read before now
Puts command bytes read NoMemory before now = Grows [] before now
Puts command bytes read status before now = PutsAll command bytes status before now

-- The source held these bytes, and these remain of them, where it tells them. One that tells goes on telling.
abbrev pub HeldBytes : List ℕ → List ℕ → Option (List ℕ) → Option (List ℕ) → Type 0
HeldBytes bytes behind = Told (λ before now. (before ≡ bytes) × (now ≡ behind))

-- How a run ends: the bytes that the source held, those of them that were read, and what was put. Where the source
-- tells nothing, these are some bytes that begin with those that were read.
pub record Ends (command : Option Command) (status : Status) (held remaining : Option (List ℕ))
    (before now : Option Outside) : Type 0 where
  pub bytes : List ℕ
  pub read : List ℕ
  pub behind : List ℕ
  pub all : bytes ≡ read ++ behind
  pub holds : HeldBytes bytes behind held remaining
  pub reads : Reads command status bytes read
  pub puts : Puts command bytes read status before now

-- no file is touched
abbrev pub TouchesNoFile : Option Outside → Option Outside → Type 0
TouchesNoFile = Told (λ before now. (now.a ≡ before.a) × (now.b ≡ before.b))

-- ---- what must be done

-- the bytes pass no limit, and no line of the text is in fault; a graph is cut where it is one, and graphs are merged
-- where they are graphs of one version and profile, and no way has a block in two
abbrev pub CanBeDone : Option Command → List ℕ → Type 0
CanBeDone None bytes = ⊥
CanBeDone (Some (Plan rule)) bytes = (PassesStreamLimit bytes → ⊥) × (events : List Event)
    × ReadAll Extract bytes events
CanBeDone (Some (Map command)) bytes = (PassesLimit bytes → ⊥) × (events : List Event) × ReadAll Extract bytes events
CanBeDone (Some (Graphs (Range from to))) bytes = (HasTooManyBytes bytes → ⊥) × IsGraphFile bytes
CanBeDone (Some (Graphs Merge)) bytes = (HasTooManyBytes bytes → ⊥) × IsMergeable bytes

-- ---- how many blocks are built

-- no more than the own ways that pass
abbrev pub BuildsPart : CutCell → List Event → ℕ → ℕ → Type 0
BuildsPart cut events old new = (objects : Objects) (ways : List WayId)
    → IsApplied empty events objects → Lists (λ w. w) way_cmp (IsOwnPassing objects cut) ways → new ≤ old + length ways

-- what a command builds of the map that the events leave
abbrev pub BuildsOf : MapCommand → List Event → ℕ → ℕ → Type 0
BuildsOf (Part cut profile) events old new = BuildsPart cut events old new
BuildsOf (Rest cut) events old new = new ≡ old
BuildsOf (Cell cut profile) events old new = BuildsPart cut events old new
BuildsOf (Ways profile ways) events old new = new ≤ old + length ways

-- no more blocks are built than there are ways to be written; other commands build none
abbrev pub Builds : Option Command → Option (List ℕ) → ℕ → ℕ → Type 0
Builds (Some (Map (Part cut profile))) held old new = (bytes : List ℕ) (events : List Event)
    → held ≡ Some bytes → ReadAll Extract bytes events → BuildsPart cut events old new
Builds (Some (Map (Cell cut profile))) held old new = (bytes : List ℕ) (events : List Event)
    → held ≡ Some bytes → ReadAll Extract bytes events → BuildsPart cut events old new
Builds (Some (Map (Ways profile ways))) held old new = new ≤ old + length ways
Builds command held old new = new ≡ old
