-- What loading a store leaves.
use Rattle.std.specs.Prelude.{◌≡◌, ◌⊎◌, ◌≤◌, ◌^◌, length, false, Result, Ok, Err}
use Rattle.road_base.specs.History.{History, all_events}
use Rattle.road_io.specs.declared.outside.Which.{Which}
use Rattle.road_io.specs.Outside.{Outside, Left, IsLeft, LeavesOnly, other, present}
use Rattle.sequence_journal.specs.declared.error.JournalError.{JournalError}
use Rattle.sequence_journal.specs.declared.error.JournalError.TheVariants.{OutOfSequence, SiteFault, NoStore}
use Rattle.sequence_journal.specs.declared.error.JournalError.TheVariants.{StoreExists}
use Rattle.sequence_journal.specs.declared.load.Loaded.{Loaded}
use Rattle.sequence_journal.specs.Reading.{IsRefused}
use Rattle.sequence_journal.specs.Loading.{Calm, IsEnded, StandAlike}
use Rattle.store_switch.specs.LiveFile.{IsLive, NoBases, reads_of}
use Rattle.store_switch.specs.TwoFiles.{StandOn, CanBeLoaded, IsOnStore, LeavesStore}

-- The files stood for a history, and these are all its events, in order. The journal stands on them for that history,
-- has the live file's generation, and isn't closed. The live file had and has at most 2^40 bytes.
pub record StoreLoaded (l : Loaded) (w v : Outside) : Type 0 where
  pub history : History
  pub stood : StandOn l.journal.file l.journal.generation (reads_of w) history
  pub small : length (reads_of w l.journal.file) ≤ 2 ^ 40
  pub events : l.events.items ≡ all_events history
  pub ready : IsOnStore l.journal history v
  pub not_closed : l.journal.closed ≡ false
  pub kept_small : length (reads_of v l.journal.file) ≤ 2 ^ 40

-- both files read as before
abbrev pub StillRead : Outside → Outside → Type 0
StillRead w v = (file : Which) → reads_of v file ≡ reads_of w file

-- There was a live file, which stood for a history, within its limit, and now stands for it by itself, under the same
-- generation. The other file reads as before.
pub record StillStands (w v : Outside) : Type 0 where
  pub live : Which
  pub was_live : IsLive live (reads_of w)
  pub alike : StandAlike (reads_of w live) (reads_of v live)
  pub others : reads_of v (other live) ≡ reads_of w (other live)

-- There is a live file, which is refused for what it says or for want of memory.
pub record StoreRefused (e : JournalError) (w v : Outside) : Type 0 where
  pub live : Which
  pub is_live : IsLive live (reads_of w)
  pub refused : IsRefused live (reads_of w live) e
  pub still : StillRead w v

-- NoStore comes exactly where neither file has an open base. But for a fault of the site a refusal leaves both files as
-- they read.
abbrev pub StoreAnswer : Result Loaded JournalError → Outside → Outside → Type 0
StoreAnswer (Ok l) w v = StoreLoaded l w v
StoreAnswer (Err NoStore) w v = NoBases (reads_of w) × StillRead w v
StoreAnswer (Err SiteFault) w v = Unit {0}
StoreAnswer (Err e) w v = StoreRefused e w v

-- what `load_store` may refuse
abbrev pub IsLoadError : JournalError → Type 0
IsLoadError (OutOfSequence kept got) = ⊥
IsLoadError StoreExists = ⊥
IsLoadError e = Unit {0}

-- files that stand for the history for which the files stood, within the limit, when the call began
abbrev pub LeavesAlike : Outside → Left → Type 0
LeavesAlike w left = (h : History) × CanBeLoaded (reads_of w) h × LeavesStore h w.output left

-- A stop leaves what it could leave when the call began, or files that stand for the same history. At every answer, a
-- fault of the site too, both files read as before, or just the live one doesn't, and stands for the same history.
-- Where there is nothing to repair in the live file, all reads as before and a stop leaves nothing new.
pub record LoadsStore (result : Result Loaded JournalError) (w v : Outside) : Type 0 where
  pub any_moment : LeavesOnly w v (λ left. IsLeft (present w) left ⊎ LeavesAlike w left)
  pub answer : StoreAnswer result w v
  pub files : StillRead w v ⊎ StillStands w v
  pub calm : (live : Which) → IsLive live (reads_of w) → IsEnded (reads_of w live) → Calm w v
  pub output : v.output ≡ w.output
