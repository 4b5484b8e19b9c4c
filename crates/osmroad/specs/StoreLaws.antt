-- What commands go by that load a store.
use Rattle.std.specs.Prelude.{◌≡◌, ◌≤◌, ◌^◌, ℕ, List, length, Result, Ok}
use Rattle.road_base.specs.declared.event.Event.{Event}
use Rattle.road_base.specs.declared.ids.Sequence.{Sequence}
use Rattle.road_base.specs.History.{History, with_change}
use Rattle.road_io.specs.declared.outside.Which.{Which}
use Rattle.road_io.specs.Outside.{Outside, Left, IsLeft, LeavesOnly, present, image_of}
use Rattle.sequence_journal.specs.declared.error.JournalError.{JournalError}
use Rattle.sequence_journal.specs.declared.journal.Journal.{Journal}
use Rattle.sequence_journal.specs.Standing.{DamagedAt}
use Rattle.sequence_journal.specs.Adding.{Adds, AddAnswer}
use Rattle.road_base.specs.Objects.{Objects}
use Rattle.road_base.specs.History.{HasObjects, SameForReader}
use Rattle.store_switch.specs.LiveFile.{IsLive, BothDurable, reads_of}
use Rattle.store_switch.specs.Checkpointing.{AreEntries, Checkpoints, CheckpointAnswer, LeavesCheckpoint, checkpoint_of}
use Rattle.store_switch.specs.Checkpointing.{IsRaised}
use Rattle.store_switch.specs.TwoFiles.{StandOn, StandFor, AreIntact, IsOnStore, LeavesStore, LeavesEither}
use Rattle.osmroad.specs.Opening.{Files}

-- one file at most is live
abbrev pub OneLive : Type 0
OneLive = (files : Files) (f k : Which) → IsLive f files → IsLive k files → f ≡ k

-- a store has a live file
abbrev pub HasLive : Type 0
HasLive = (files : Files) (f : Which) (g : ℕ) (h : History) → StandOn f g files h → IsLive f files

-- the live file of a store isn't damaged
abbrev pub NoDamage : Type 0
NoDamage = (files : Files) (live : Which) (offset : ℕ)
    → AreIntact files → IsLive live files → DamagedAt (files live) offset → ⊥

-- two files stand for one history, under one generation
abbrev pub OneStore : Type 0
OneStore = (files : Files) (f k : Which) (g n : ℕ) (h i : History)
    → StandOn f g files h → StandOn k n files i → (f ≡ k) × (g ≡ n) × (h ≡ i)

-- the laws on two files, and on a journal that stands on them
pub record StoreLaws : Type 0 where
  pub one_store : OneStore
  pub one_live : OneLive
  pub live : HasLive
  pub no_damage : NoDamage
  pub there : (w : Outside) (left : Left) (file : Which)
      → BothDurable w → IsLeft (present w) left → image_of left file ≡ reads_of w file
  pub still : (w : Outside) (left : Left) (h : History)
      → BothDurable w → IsLeft (present w) left → StandFor (reads_of w) h → StandFor (image_of left) h
  pub stand : (j : Journal) (h : History) (w : Outside)
      → IsOnStore j h w → StandOn j.file j.generation (reads_of w) h
  pub stopped : (j : Journal) (h : History) (w : Outside) (left : Left)
      → IsOnStore j h w → IsLeft (present w) left → LeavesStore h w.output left

-- the laws on a change that is added to a store
pub record ChangeLaws : Type 0 where
  pub stopped : (old new : Journal) (h : History) (change : List Event) (result : Result (Unit {0}) JournalError)
      (w v : Outside) → IsOnStore old h w → Adds old new change result w v
      → LeavesOnly w v (LeavesEither h change w.output)
  pub ok : (old new : Journal) (h : History) (seq : Sequence) (change : List Event) (x : Unit {0})
      (w v : Outside) (before now : ℕ) → IsOnStore old h w → AddAnswer old new seq change (Ok x) before now
      → Adds old new change (Ok x) w v → IsOnStore new (with_change h change) v
  pub small : (old new : Journal) (h : History) (seq : Sequence) (change : List Event) (x : Unit {0})
      (w v : Outside) (before now : ℕ) → IsOnStore old h w → AddAnswer old new seq change (Ok x) before now
      → Adds old new change (Ok x) w v → length (reads_of v new.file) ≤ 2 ^ 40

-- the laws on the checkpoint of a store, under any profile
pub record CheckpointLaws : Type 0 where
  pub stopped : (old new : Journal) (profile : ℕ) (h : History) (events : List Event)
      (result : Result (Unit {0}) JournalError) (w v : Outside) → IsOnStore old h w
      → Checkpoints old new profile events result w v → LeavesOnly w v (LeavesCheckpoint profile h events w.output)
  pub ok : (old new : Journal) (profile : ℕ) (h : History) (events : List Event) (x : Unit {0}) (w v : Outside)
      → IsOnStore old h w → Checkpoints old new profile events (Ok x) w v
      → IsOnStore new (checkpoint_of profile h events) v
  pub small : (old new : Journal) (profile : ℕ) (h : History) (events : List Event) (x : Unit {0}) (w v : Outside)
      (before now : ℕ) → IsOnStore old h w → CheckpointAnswer old new profile events (Ok x) before now
      → Checkpoints old new profile events (Ok x) w v → length (reads_of v new.file) ≤ 2 ^ 40
  pub same : (h : History) (objects : Objects) (events : List Event)
      → HasObjects h objects → AreEntries objects events → SameForReader (checkpoint_of h.profile h events) h
  pub raised : (profile : ℕ) (h : History) (objects : Objects) (events : List Event)
      → HasObjects h objects → AreEntries objects events → IsRaised profile (checkpoint_of profile h events) h
