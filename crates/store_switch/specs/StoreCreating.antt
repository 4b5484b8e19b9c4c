-- What creating a store leaves.
use Rattle.std.specs.Prelude.{◌≡◌, ◌⊎◌, ℕ, List, false, Result, Ok, Err}
use Rattle.road_base.specs.declared.event.Event.{Event}
use Rattle.road_io.specs.declared.outside.Which.{Which}
use Rattle.road_io.specs.declared.outside.Which.TheVariants.{A, B}
use Rattle.road_io.specs.Outside.{Outside, Left, IsLeft, LeavesOnly, present, image_of}
use Rattle.sequence_journal.specs.declared.error.JournalError.{JournalError}
use Rattle.sequence_journal.specs.declared.error.JournalError.TheVariants.{SiteFault, StoreExists, NoMemory}
use Rattle.sequence_journal.specs.declared.journal.Journal.{Journal}
use Rattle.sequence_journal.specs.Basing.{base_alone}
use Rattle.sequence_journal.specs.Loading.{Calm}
use Rattle.store_switch.specs.LiveFile.{IsLive, NoBases, reads_of}
use Rattle.store_switch.specs.TwoFiles.{IsOnStore, LeavesStore}

-- There was no store. The journal stands on A, of generation 1, for the given base of profile 1 without a change, and
-- isn't closed.
pub record StoreCreated (number : ℕ) (events : List Event) (j : Journal) (w v : Outside) : Type 0 where
  pub none : NoBases (reads_of w)
  pub ready : IsOnStore j (base_alone 1 number events) v
  pub file : j.file ≡ A
  pub generation : j.generation ≡ 1
  pub not_closed : j.closed ≡ false

-- StoreExists comes exactly where some file has an open base. But for a fault of the site, a refusal leaves both files
-- as they are.
abbrev pub CreateAnswer : ℕ → List Event → Result Journal JournalError → Outside → Outside → Type 0
CreateAnswer number events (Ok j) w v = StoreCreated number events j w v
CreateAnswer number events (Err StoreExists) w v = ((live : Which) × IsLive live (reads_of w)) × Calm w v
CreateAnswer number events (Err NoMemory) w v = NoBases (reads_of w) × Calm w v
CreateAnswer number events (Err SiteFault) w v = Unit {0}
CreateAnswer number events (Err e) w v = ⊥

-- what `create_store` may refuse
abbrev pub IsCreateError : JournalError → Type 0
IsCreateError SiteFault = Unit {0}
IsCreateError StoreExists = Unit {0}
IsCreateError NoMemory = Unit {0}
IsCreateError e = ⊥

-- where there was no store, files without an open base, or files that stand for the given base
abbrev pub LeavesNewOrNone : ℕ → List Event → Outside → Left → Type 0
LeavesNewOrNone number events w left = NoBases (reads_of w)
    × ((NoBases (image_of left) × (left.out ≡ w.output)) ⊎ LeavesStore (base_alone 1 number events) w.output left)

-- A stop leaves what it could leave when the call began, or no store, or the new one. At every answer, a fault of the
-- site too, file B reads as before.
pub record CreatesStore (number : ℕ) (events : List Event) (result : Result Journal JournalError)
    (w v : Outside) : Type 0 where
  pub any_moment : LeavesOnly w v (λ left. IsLeft (present w) left ⊎ LeavesNewOrNone number events w left)
  pub answer : CreateAnswer number events result w v
  pub file_b : reads_of v B ≡ reads_of w B
  pub output : v.output ≡ w.output
