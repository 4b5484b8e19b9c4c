-- What adding a change does.
use Rattle.std.specs.Prelude.{◌≡◌, ◌⊎◌, ℕ, ◌+◌, ◌<◌, ◌≤◌, ◌^◌, List, [], ◌∷◌, ◌++◌, length, true, false}
use Rattle.std.specs.Prelude.{Result, Ok, Err, OnOk}
use Rattle.road_base.specs.declared.event.Event.{Event}
use Rattle.road_base.specs.declared.ids.Sequence.{Sequence}
use Rattle.road_base.specs.History.{History, with_change}
use Rattle.object_codec.specs.Spelling.{events_bytes}
use Rattle.road_io.specs.Told.{Rose}
use Rattle.road_io.specs.Outside.{Outside, LeavesOnly, LeavesFile, disk, other}
use Rattle.sequence_journal.specs.declared.error.JournalError.{JournalError}
use Rattle.sequence_journal.specs.declared.error.JournalError.TheVariants.{OutOfSequence, SiteFault, TooLarge}
use Rattle.sequence_journal.specs.declared.error.JournalError.TheVariants.{NoMemory}
use Rattle.sequence_journal.specs.declared.journal.Journal.{Journal}
use Rattle.sequence_journal.specs.declared.append.SpelledChange.{SpelledChange}
use Rattle.sequence_journal.specs.Layout.{fields}
use Rattle.sequence_journal.specs.Standing.{EventsFit, Stands, record_of}
use Rattle.sequence_journal.specs.Journal.{IsAt}

-- no number follows the last one that a u64 holds
abbrev pub IsNext : Journal → Sequence → Type 0
IsNext j seq = seq.0 ≡ j.kept.0 + 1

-- how many bytes the file has with a record of these events, and the gate behind it
abbrev pub size_with : Journal → List Event → ℕ
size_with j events = j.gate + (18 + length (events_bytes events))

-- the journal with the change
abbrev pub moved_on : Journal → Sequence → List Event → Journal
moved_on j seq events = record j { gate = j.gate + (17 + length (events_bytes events)); kept = seq }

-- ---- the record

-- The bytes are the fields of the record of these events under the number, the events' bytes, and behind them the next
-- gate, closed. The record's own gate isn't among them.
pub record IsSpelledChange (change : SpelledChange) (events : List Event) : Type 0 where
  pub number_fits : change.number.0 < 2 ^ 64
  pub fit : EventsFit events
  pub bytes : change.chunk.items ≡ fields (record_of change.number.0 events) ++ 0 ∷ []

-- ---- the answer

-- The journal isn't closed, the number is the next one, and the file stays within 2^40 bytes.
pub record MayAdd (j : Journal) (seq : Sequence) (events : List Event) : Type 0 where
  pub not_closed : j.closed ≡ false
  pub next : IsNext j seq
  pub room : size_with j events ≤ 2 ^ 40

-- the spelled change is that of some events which may be added under its number
abbrev pub MayAddSpelled : Journal → SpelledChange → Type 0
MayAddSpelled j change = (events : List Event) × IsSpelledChange change events × MayAdd j change.number events

-- Each answer of `append` with what it means, and so each answer of `add`; no two meet but by want of memory, and by a
-- fault of the site. A closed journal answers SiteFault and nothing else. Then OutOfSequence comes exactly where the
-- number isn't the next one, with both numbers, and then TooLarge exactly where the file would pass 2^40 bytes. A fault
-- of the site closes the journal, and every other refusal leaves it as it is.
abbrev pub AddAnswer : Journal → Journal → Sequence → List Event → Result (Unit {0}) JournalError → ℕ → ℕ → Type 0
AddAnswer old new seq events (Ok x) before now =
    MayAdd old seq events × (new ≡ moved_on old seq events) × (now ≡ before)
AddAnswer old new seq events (Err (OutOfSequence kept got)) before now = (old.closed ≡ false) × (IsNext old seq → ⊥)
    × (kept ≡ old.kept) × (got ≡ seq) × (new ≡ old) × (now ≡ before)
AddAnswer old new seq events (Err TooLarge) before now = (old.closed ≡ false) × IsNext old seq
    × (2 ^ 40 < size_with old events) × (new ≡ old) × (now ≡ before)
AddAnswer old new seq events (Err NoMemory) before now =
    (old.closed ≡ false) × IsNext old seq × (new ≡ old) × (now ≡ before)
AddAnswer old new seq events (Err SiteFault) before now =
    (((old.closed ≡ true) × (now ≡ before)) ⊎ (MayAdd old seq events × (before ≤ now) × Rose before now))
    × (new ≡ record old { closed = true })
AddAnswer old new seq events (Err e) before now = ⊥

-- ---- the file

-- A stop leaves a file that stands for the journal's history, or for that with the change. After an Ok the journal
-- stands on it for the latter. The other file is left as it is.
pub record Added (old new : Journal) (h : History) (change : List Event) (result : Result (Unit {0}) JournalError)
    (w v : Outside) : Type 0 where
  pub any_moment : LeavesOnly w v (LeavesFile old.file
      (λ image. Stands image old.generation h ⊎ Stands image old.generation (with_change h change)) w)
  pub ok : OnOk result (IsAt new (with_change h change) v)
  pub others : disk v (other old.file) ≡ disk w (other old.file)
  pub output : v.output ≡ w.output

-- a refusal touches no file, and neither does a closed journal
abbrev pub Adds : Journal → Journal → List Event → Result (Unit {0}) JournalError → Outside → Outside → Type 0
Adds old new change (Ok x) w v = (h : History) → IsAt old h w → Added old new h change (Ok x) w v
Adds old new change (Err SiteFault) w v = ((old.closed ≡ true) × (v ≡ w))
    ⊎ ((old.closed ≡ false) × ((h : History) → IsAt old h w → Added old new h change (Err SiteFault) w v))
Adds old new change (Err e) w v = v ≡ w
