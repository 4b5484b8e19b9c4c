-- What loading a file leaves.
use Rattle.std.specs.Prelude.{◌≡◌, ◌⊎◌, ℕ, ◌≤◌, ◌^◌, List, [], ◌∷◌, length, false, Result, Ok, Err, OnOk}
use Rattle.road_base.specs.History.{History, all_events}
use Rattle.road_io.specs.declared.outside.Failed.{Failed}
use Rattle.road_io.specs.declared.outside.Which.{Which}
use Rattle.road_io.specs.Disk.{IsImage, IsDurable}
use Rattle.road_io.specs.Outside.{Outside, IsLeft, LeavesOnly, LeavesFile, disk, other, present}
use Rattle.sequence_journal.specs.declared.error.JournalError.{JournalError}
use Rattle.sequence_journal.specs.declared.error.JournalError.TheVariants.{SiteFault}
use Rattle.sequence_journal.specs.declared.load.Loaded.{Loaded}
use Rattle.sequence_journal.specs.Standing.{BeginsWith, Stands}
use Rattle.sequence_journal.specs.Journal.{IsAt}
use Rattle.sequence_journal.specs.Reading.{IsRefused}

-- ---- a sync

-- Calls after which all reads as before, and a stop leaves nothing that it couldn't leave before: reads, and syncs.
pub record Calm (w v : Outside) : Type 0 where
  pub reads : (file : Which) → (disk v file).reads ≡ (disk w file).reads
  pub durable : (file : Which) → IsDurable (disk w file) → IsDurable (disk v file)
  pub output : v.output ≡ w.output
  pub images : (file : Which) (image : List ℕ) → IsImage (disk v file) image → IsImage (disk w file) image
  pub only : LeavesOnly w v (IsLeft (present w))

-- After a sync that is Ok nothing is pending on the file. The other file is left as it is.
pub record Settles (file : Which) (result : Result (Unit {0}) Failed) (w v : Outside) : Type 0 where
  pub calm : Calm w v
  pub done : OnOk result (IsDurable (disk v file))
  pub others : disk v (other file) ≡ disk w (other file)

-- ---- loading

-- There is nothing to repair: behind a history stands the next gate, closed, and nothing else; or the history ends at
-- 2^40 bytes, where no gate is written.
pub record IsEnded (file : List ℕ) : Type 0 where
  pub generation : ℕ
  pub history : History
  pub end : List ℕ
  pub begins : BeginsWith file generation history end
  pub ends : (end ≡ 0 ∷ []) ⊎ ((end ≡ []) × (length file ≡ 2 ^ 40))

-- The file stood for a history, whose events these are, in order. The journal stands on the file for it, and isn't
-- closed. The file had and has at most 2^40 bytes.
pub record IsLoaded (file : Which) (reads : List ℕ) (l : Loaded) (v : Outside) : Type 0 where
  pub history : History
  pub stood : Stands reads l.journal.generation history
  pub events : l.events.items ≡ all_events history
  pub at : IsAt l.journal history v
  pub on : l.journal.file ≡ file
  pub not_closed : l.journal.closed ≡ false
  pub small : length reads ≤ 2 ^ 40
  pub still_small : length (disk v file).reads ≤ 2 ^ 40

-- a refusal by what the file says, which then reads as before; a fault of the site may have left the file repaired
abbrev pub LoadAnswer : Which → Result Loaded JournalError → Outside → Outside → Type 0
LoadAnswer file (Ok l) w v = IsLoaded file (disk w file).reads l v
LoadAnswer file (Err e) w v =
    IsRefused file (disk w file).reads e × ((e ≡ SiteFault) ⊎ ((disk v file).reads ≡ (disk w file).reads))

-- both stand for one history, and the first is within its limit, as each file that is repaired
abbrev pub StandAlike : List ℕ → List ℕ → Type 0
StandAlike reads image = (generation : ℕ) × (h : History) × Stands reads generation h × Stands image generation h
    × (length reads ≤ 2 ^ 40)

-- the same bytes, or both stand for one history
abbrev pub IsAlike : List ℕ → List ℕ → Type 0
IsAlike reads image = (image ≡ reads) ⊎ StandAlike reads image

-- Of a file on which nothing is pending a stop leaves what it reads as, or a file that stands for the same history. At
-- every answer, a fault of the site too, it then reads so. Where there is nothing to repair, all reads as before and a
-- stop leaves nothing new.
pub record Mended (file : Which) (result : Result Loaded JournalError) (w v : Outside) : Type 0 where
  pub any_moment : LeavesOnly w v (LeavesFile file (IsAlike (disk w file).reads) w)
  pub alike : IsAlike (disk w file).reads (disk v file).reads
  pub calm : IsEnded (disk w file).reads → Calm w v
  pub answer : LoadAnswer file result w v
  pub others : disk v (other file) ≡ disk w (other file)
  pub output : v.output ≡ w.output

abbrev pub Mends : Which → Result Loaded JournalError → Outside → Outside → Type 0
Mends file result w v = IsDurable (disk w file) → Mended file result w v

-- A stop leaves what it could leave when the call began, or a file that stands for the history for which the file
-- stood. At every answer, a fault of the site too, the file then reads as before, or stands for that history. Where
-- there is nothing to repair, all reads as before and a stop leaves nothing new. The other file is left as it is.
pub record Loads (file : Which) (result : Result Loaded JournalError) (w v : Outside) : Type 0 where
  pub any_moment : LeavesOnly w v
      (LeavesFile file (λ image. IsImage (disk w file) image ⊎ StandAlike (disk w file).reads image) w)
  pub alike : IsAlike (disk w file).reads (disk v file).reads
  pub calm : IsEnded (disk w file).reads → Calm w v
  pub answer : LoadAnswer file result w v
  pub others : disk v (other file) ≡ disk w (other file)
  pub output : v.output ≡ w.output
