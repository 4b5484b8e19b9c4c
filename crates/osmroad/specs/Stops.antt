-- What a stop at any moment of a run leaves of the files and the output.
use Rattle.std.specs.Prelude.{◌≡◌, ◌⊎◌, ℕ, ◌+◌, List, ◌++◌, Option, None, Some}
use Rattle.std.specs.Io.{StartsWith}
use Rattle.road_base.specs.declared.event.Event.{Event}
use Rattle.road_base.specs.History.{History, kept, with_change}
use Rattle.opl_lexer.specs.declared.mode.Mode.TheVariants.{Extract, Change}
use Rattle.road_io.specs.Disk.{IsImage}
use Rattle.road_io.specs.Outside.{Outside, Left, IsLeft, present, image_of}
use Rattle.sequence_journal.specs.Basing.{base_alone}
use Rattle.store_switch.specs.LiveFile.{NoBases, BothDurable, reads_of}
use Rattle.store_switch.specs.TwoFiles.{StandFor, CanBeLoaded}
use Rattle.osmroad.specs.declared.command.BaseProfile.{BaseProfile}
use Rattle.osmroad.specs.declared.command.Command.{Command}
use Rattle.osmroad.specs.declared.command.Command.TheVariants.{Compile, Inspect, Sample, Create, Apply}
use Rattle.osmroad.specs.declared.command.Command.TheVariants.{Graph, Audit, Checkpoint}
use Rattle.osmroad.specs.Texts.{created_line, applied_line}
use Rattle.osmroad.specs.Checkpoints.{AreItsEntries, IsCheckpointOf, base_line, checkpointed}
use Rattle.osmroad.specs.Outcomes.{AreInput}

-- each file is one that a stop could leave when the run began
pub record CouldLeave (w : Outside) (left : Left) : Type 0 where
  pub a : IsImage w.a left.a
  pub b : IsImage w.b left.b

-- this line lies whole in the output, behind what was put before the run
abbrev pub HasPut : List ℕ → Outside → Left → Type 0
HasPut line w left = StartsWith left.out (w.output ++ line)

-- ---- where there is no store, `create`

-- A stop leaves what it could leave when the run began, or no store, or the new one: the latter once the line that
-- tells of it is put.
pub data LeavesBase (number : ℕ) (read : List ℕ) (w : Outside) (left : Left) : Type 0 where
  Before : CouldLeave w left → (HasPut (created_line number) w left → ⊥) → LeavesBase number read w left
  Without : NoBases (image_of left) → (HasPut (created_line number) w left → ⊥) → LeavesBase number read w left
  With : (events : List Event) → AreInput Extract read events → StandFor (image_of left) (base_alone 1 number events)
      → LeavesBase number read w left

-- ---- where the files stand for a history

-- Nothing was put, and the files are what a stop could leave when the run began: where nothing was pending then, they
-- stand for the history.
pub record LeavesFirst (w : Outside) (left : Left) (h : History) : Type 0 where
  pub could : IsLeft (present w) left
  pub durable : BothDurable w → StandFor (image_of left) h

-- A stop leaves what it could leave when the run began, with nothing put; or files that stand for the history; or files
-- that stand for it with the change that was read, under the next number: the latter once the line that tells of it is
-- put.
pub data LeavesChange (number : ℕ) (read : List ℕ) (w : Outside) (left : Left) (h : History) : Type 0 where
  Before : LeavesFirst w left h → LeavesChange number read w left h
  Without : StandFor (image_of left) h → (HasPut (applied_line number) w left → ⊥)
      → LeavesChange number read w left h
  With : number ≡ kept h + 1 → (events : List Event) → AreInput Change read events
      → StandFor (image_of left) (with_change h events) → LeavesChange number read w left h

-- a stop leaves what it could leave when the run began, with nothing put; or files that stand for the history
abbrev pub LeavesHistory : Outside → Left → History → Type 0
LeavesHistory w left h = LeavesFirst w left h ⊎ StandFor (image_of left) h

-- A stop leaves what it could leave when the run began, with nothing put; or files that stand for the history; or files
-- that stand for its entries as a base, in which a reader finds its kept number and its objects, and its profile or
-- profile 2: the latter once the line that tells of it is put.
pub data LeavesCheckpoint (base : BaseProfile) (w : Outside) (left : Left) (h : History) : Type 0 where
  Before : LeavesFirst w left h → LeavesCheckpoint base w left h
  Without : StandFor (image_of left) h → (HasPut (base_line base (kept h)) w left → ⊥)
      → LeavesCheckpoint base w left h
  With : (events : List Event) → AreItsEntries h events
      → IsCheckpointOf base (checkpointed base h events) h
      → StandFor (image_of left) (checkpointed base h events) → LeavesCheckpoint base w left h

-- ---- all commands

-- what is left of files that stand for a history, with a live one within its limit; other files are left as they could
-- be when the run began
pub record LeavesStored (LeavesOf : History → Type 0) (w : Outside) (left : Left) : Type 0 where
  pub stored : (h : History) → CanBeLoaded (reads_of w) h → LeavesOf h
  pub otherwise : ((h : History) → CanBeLoaded (reads_of w) h → ⊥) → CouldLeave w left

-- the same of files without an open base
pub record LeavesCreated (number : ℕ) (read : List ℕ) (w : Outside) (left : Left) : Type 0 where
  pub created : NoBases (reads_of w) → LeavesBase number read w left
  pub otherwise : (NoBases (reads_of w) → ⊥) → CouldLeave w left

-- What a stop leaves in a run that read these bytes. Commands without a store touch no file.
abbrev pub LeftBy : Option Command → List ℕ → Outside → Left → Type 0
LeftBy None read w left = CouldLeave w left
LeftBy (Some (Compile n)) read w left = CouldLeave w left
LeftBy (Some Inspect) read w left = CouldLeave w left
LeftBy (Some (Sample n)) read w left = CouldLeave w left
LeftBy (Some (Create n)) read w left = LeavesCreated n.0 read w left
LeftBy (Some (Apply n)) read w left = LeavesStored (LeavesChange n.0 read w left) w left
LeftBy (Some (Graph moment)) read w left = LeavesStored (LeavesHistory w left) w left
LeftBy (Some Audit) read w left = LeavesStored (LeavesHistory w left) w left
LeftBy (Some (Checkpoint base)) read w left = LeavesStored (LeavesCheckpoint base w left) w left
