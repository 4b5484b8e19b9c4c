-- What writing a base does.
use Rattle.std.specs.Prelude.{◌≡◌, ◌⊎◌, ℕ, ◌+◌, ◌<◌, ◌≤◌, ◌^◌, List, [], length, take, false, Result, Ok, Err}
use Rattle.road_base.specs.declared.event.Event.{Event}
use Rattle.road_base.specs.declared.ids.Sequence.{Sequence}
use Rattle.road_base.specs.History.{History}
use Rattle.object_codec.specs.Spelling.{events_bytes}
use Rattle.road_io.specs.declared.outside.Which.{Which}
use Rattle.road_io.specs.Told.{Rose}
use Rattle.road_io.specs.Disk.{IsDurable}
use Rattle.road_io.specs.Outside.{Outside, LeavesOnly, LeavesFile, disk, other}
use Rattle.sequence_journal.specs.declared.error.JournalError.{JournalError}
use Rattle.sequence_journal.specs.declared.error.JournalError.TheVariants.{SiteFault, TooLarge, NoMemory}
use Rattle.sequence_journal.specs.declared.journal.Journal.{Journal}
use Rattle.sequence_journal.specs.Layout.{NoBase}
use Rattle.sequence_journal.specs.Standing.{Stands}
use Rattle.sequence_journal.specs.Journal.{IsAt}

-- a base without changes
abbrev pub base_alone : ℕ → ℕ → List Event → History
base_alone profile number events = record {
  profile = profile;
  base_number = number;
  base_events = events;
  changes = [];
}

-- a front of what the file read as, or no open base, or the given base and nothing else
abbrev pub IsBaseImage : List ℕ → ℕ → History → List ℕ → Type 0
IsBaseImage was generation h image = ((n : ℕ) × (image ≡ take n was)) ⊎ NoBase image ⊎ Stands image generation h

abbrev pub BaseAnswer : Which → ℕ → History → Result Journal JournalError → Outside → Type 0
BaseAnswer file generation h (Ok j) v =
    IsAt j h v × (j.file ≡ file) × (j.generation ≡ generation) × (j.closed ≡ false)
BaseAnswer file generation h (Err e) v = e ≡ SiteFault

-- After an Ok the journal stands on the file for the base, and isn't closed. The other file is left as it is.
pub record Based (file : Which) (generation : ℕ) (h : History) (result : Result Journal JournalError)
    (w v : Outside) : Type 0 where
  pub any_moment : LeavesOnly w v (LeavesFile file (IsBaseImage (disk w file).reads generation h) w)
  pub answer : BaseAnswer file generation h result v
  pub others : disk v (other file) ≡ disk w (other file)
  pub output : v.output ≡ w.output

-- where no memory is found, no file is touched
abbrev pub WritesBase : Which → ℕ → History → Result Journal JournalError → Outside → Outside → Type 0
WritesBase file generation h (Ok j) w v = IsDurable (disk w file) → Based file generation h (Ok j) w v
WritesBase file generation h (Err SiteFault) w v = IsDurable (disk w file) → Based file generation h (Err SiteFault) w v
WritesBase file generation h (Err NoMemory) w v = v ≡ w
WritesBase file generation h (Err e) w v = ⊥

-- the journal on a file with a base of this number, profile and events, and no change
abbrev pub journal_of_base : Which → ℕ → Sequence → ℕ → List Event → Journal
journal_of_base file generation base profile events = record {
  file = file;
  generation = generation;
  profile = profile;
  gate = 37 + length (events_bytes events);
  kept = base;
  closed = false;
}

-- ---- within the limit

-- how many bytes a file has with a base of these events, and the gate behind it
abbrev pub base_size : List Event → ℕ
base_size events = 38 + length (events_bytes events)

-- Each answer of `write_base_within` with what it means. TooLarge comes exactly where the file would pass 2^40 bytes,
-- and SiteFault only where the count of the site's faults rose.
abbrev pub WithinAnswer : Which → ℕ → Sequence → ℕ → List Event → Result Journal JournalError → ℕ → ℕ → Type 0
WithinAnswer file generation base profile events (Ok j) before now =
    (base_size events ≤ 2 ^ 40) × (j ≡ journal_of_base file generation base profile events) × (now ≡ before)
WithinAnswer file generation base profile events (Err TooLarge) before now =
    (2 ^ 40 < base_size events) × (now ≡ before)
WithinAnswer file generation base profile events (Err NoMemory) before now = now ≡ before
WithinAnswer file generation base profile events (Err SiteFault) before now =
    (base_size events ≤ 2 ^ 40) × (before ≤ now) × Rose before now
WithinAnswer file generation base profile events (Err e) before now = ⊥

-- where the file would be too large, no file is touched
abbrev pub WritesWithin : Which → ℕ → History → Result Journal JournalError → Outside → Outside → Type 0
WritesWithin file generation h (Err TooLarge) w v = v ≡ w
WritesWithin file generation h result w v = WritesBase file generation h result w v
