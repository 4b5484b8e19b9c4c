-- Which of two files is live.
use Rattle.std.specs.Prelude.{◌≡◌, ◌⊎◌, ℕ, ◌<◌, ◌≤◌, List, Option, None, Some, Result, Ok, Err, OnOk}
use Rattle.road_io.specs.declared.outside.Failed.{Failed}
use Rattle.road_io.specs.declared.outside.Which.{Which}
use Rattle.road_io.specs.declared.outside.Which.TheVariants.{A, B}
use Rattle.road_io.specs.Disk.{IsDurable}
use Rattle.road_io.specs.Outside.{Outside, Quiet, disk, other}
use Rattle.sequence_journal.specs.declared.error.JournalError.{JournalError}
use Rattle.sequence_journal.specs.declared.error.JournalError.TheVariants.{SiteFault}
use Rattle.sequence_journal.specs.declared.heads.BaseHead.{BaseHead}
use Rattle.sequence_journal.specs.Layout.{Base, BaseIsOpen, NoBase}
use Rattle.sequence_journal.specs.Loading.{Calm}

-- both files as they read
abbrev pub reads_of : Outside → Which → List ℕ
reads_of w file = (disk w file).reads

-- ---- the live file

-- the greater generation beats the other one, and A does at a tie
abbrev pub Beats : Which → ℕ → ℕ → Type 0
Beats A mine others = others ≤ mine
Beats B mine others = others < mine

-- the other file has no open base, or one that is beaten
abbrev pub IsOver : Which → ℕ → List ℕ → Type 0
IsOver live generation others =
    (b : Base) (rest : List ℕ) → BaseIsOpen others b rest → Beats live generation b.generation

-- This file is the live one: it has an open base, and the other file has none, or one that is beaten.
pub record IsLive (live : Which) (files : Which → List ℕ) : Type 0 where
  pub base : Base
  pub rest : List ℕ
  pub is_open : BaseIsOpen (files live) base rest
  pub over : IsOver live base.generation (files (other live))

-- neither file has an open base, so that none is live
abbrev pub NoBases : (Which → List ℕ) → Type 0
NoBases files = (file : Which) → NoBase (files file)

-- ---- finding it

-- what the heads of A and of B decide
abbrev pub IsChosen : Option BaseHead → Option BaseHead → Option Which → Type 0
IsChosen None None live = live ≡ None
IsChosen (Some a) None live = live ≡ Some A
IsChosen None (Some b) live = live ≡ Some B
IsChosen (Some a) (Some b) live = ((live ≡ Some A) × Beats A a.generation b.generation)
    ⊎ ((live ≡ Some B) × Beats B b.generation a.generation)

-- None exactly where neither file has an open base
abbrev pub LiveAnswer : (Which → List ℕ) → Result (Option Which) JournalError → Type 0
LiveAnswer files (Ok (Some live)) = IsLive live files
LiveAnswer files (Ok None) = NoBases files
LiveAnswer files (Err e) = e ≡ SiteFault

pub record FindsLive (result : Result (Option Which) JournalError) (w v : Outside) : Type 0 where
  pub quiet : Quiet w v
  pub answer : LiveAnswer (reads_of w) result

-- ---- a sync of both files

-- nothing is pending on either file
abbrev pub BothDurable : Outside → Type 0
BothDurable w = (file : Which) → IsDurable (disk w file)

pub record SettlesBoth (result : Result (Unit {0}) Failed) (w v : Outside) : Type 0 where
  pub calm : Calm w v
  pub done : OnOk result (BothDurable v)
