-- What two files stand for, and a journal that stands on them.
use Rattle.std.specs.Prelude.{◌≡◌, ◌⊎◌, ℕ, ◌≤◌, ◌^◌, List, length}
use Rattle.road_base.specs.declared.event.Event.{Event}
use Rattle.road_base.specs.History.{History, with_change}
use Rattle.road_io.specs.declared.outside.Which.{Which}
use Rattle.road_io.specs.Outside.{Outside, Left, image_of, other}
use Rattle.sequence_journal.specs.declared.journal.Journal.{Journal}
use Rattle.sequence_journal.specs.Standing.{Stands}
use Rattle.sequence_journal.specs.Journal.{IsAt}
use Rattle.store_switch.specs.LiveFile.{IsOver, NoBases, BothDurable, reads_of}

-- ---- two files

-- The files stand for this history, which the live one holds under this generation.
pub record StandOn (live : Which) (generation : ℕ) (files : Which → List ℕ) (h : History) : Type 0 where
  pub stands : Stands (files live) generation h
  pub over : IsOver live generation (files (other live))

-- The files stand for this history: the live one does.
abbrev pub StandFor : (Which → List ℕ) → History → Type 0
StandFor files h = (live : Which) × (generation : ℕ) × StandOn live generation files h

-- They stand for it, and the live one has at most 2^40 bytes. Other files aren't loaded.
abbrev pub CanBeLoaded : (Which → List ℕ) → History → Type 0
CanBeLoaded files h = (live : Which) × (generation : ℕ) × StandOn live generation files h
    × (length (files live) ≤ 2 ^ 40)

-- They stand for some history, or neither has an open base.
abbrev pub AreIntact : (Which → List ℕ) → Type 0
AreIntact files = NoBases files ⊎ ((h : History) × StandFor files h)

-- ---- a journal on them

-- The journal stands on the live file for this history, and nothing is pending on either file.
pub record IsOnStore (j : Journal) (h : History) (w : Outside) : Type 0 where
  pub at : IsAt j h w
  pub over : IsOver j.file j.generation (reads_of w (other j.file))
  pub durable : BothDurable w

-- ---- what a stop leaves

-- files that stand for this history, and this output
pub record LeavesStore (h : History) (output : List ℕ) (left : Left) : Type 0 where
  pub files : StandFor (image_of left) h
  pub out : left.out ≡ output

-- files that stand for this history, or for that with the change, and this output
pub record LeavesEither (h : History) (change : List Event) (output : List ℕ) (left : Left) : Type 0 where
  pub files : StandFor (image_of left) h ⊎ StandFor (image_of left) (with_change h change)
  pub out : left.out ≡ output
