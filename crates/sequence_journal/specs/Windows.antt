-- Bytes of a file that stand in memory, and what is looked at there.
use Rattle.std.specs.Prelude.{◌≡◌, ◌⊎◌, ℕ, ◌-◌, List, length, take, drop, Result, Ok, Err}
use Rattle.road_io.specs.declared.outside.Which.{Which}
use Rattle.road_io.specs.Outside.{Outside, Quiet, disk}
use Rattle.sequence_journal.specs.declared.error.JournalError.{JournalError}
use Rattle.sequence_journal.specs.declared.error.JournalError.TheVariants.{SiteFault, NoMemory}
use Rattle.sequence_journal.specs.declared.window.Window.{Window}

-- its bytes are those of the file from its place on
abbrev pub Holds : Which → Window → Outside → Type 0
Holds file window w =
    window.bytes.items ≡ take (length window.bytes.items) (drop window.from (disk w file).reads)

-- its bytes from a place of the file on, at most so many
abbrev pub seen : Window → ℕ → ℕ → List ℕ
seen window at size = take size (drop (at - window.from) window.bytes.items)

-- so many of the file's bytes from a place on are seen, or as many as there are
abbrev pub IsShown : Window → ℕ → ℕ → List ℕ → Result (Unit {0}) JournalError → Type 0
IsShown window at size reads (Ok x) = seen window at size ≡ take size (drop at reads)
IsShown window at size reads (Err e) = (e ≡ SiteFault) ⊎ (e ≡ NoMemory)

pub record Shows (file : Which) (window : Window) (at size : ℕ) (result : Result (Unit {0}) JournalError)
    (w v : Outside) : Type 0 where
  pub quiet : Quiet w v
  pub answer : IsShown window at size (disk w file).reads result
