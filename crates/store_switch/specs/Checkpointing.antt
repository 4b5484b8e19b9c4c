-- What going on in the other file leaves.
use Rattle.std.specs.Prelude.{◌≡◌, ◌↔◌, ◌⊎◌, ℕ, ◌+◌, ◌<◌, ◌≤◌, ◌^◌, List, map, true, false, Result, Ok, Err, OnOk}
use Rattle.std.specs.FinMap.{entries}
use Rattle.road_base.specs.declared.event.Event.{Event}
use Rattle.road_base.specs.Objects.{Objects}
use Rattle.road_base.specs.Applying.{entry_of}
use Rattle.road_base.specs.History.{History, HasObjects, SameForReader, kept}
use Rattle.road_io.specs.Told.{Rose}
use Rattle.road_io.specs.Outside.{Outside, Left, LeavesOnly, disk, image_of, other}
use Rattle.sequence_journal.specs.declared.error.JournalError.{JournalError}
use Rattle.sequence_journal.specs.declared.error.JournalError.TheVariants.{SiteFault, TooLarge, NoMemory}
use Rattle.sequence_journal.specs.declared.journal.Journal.{Journal}
use Rattle.sequence_journal.specs.Basing.{base_alone, base_size, journal_of_base}
use Rattle.store_switch.specs.TwoFiles.{StandFor, IsOnStore, LeavesStore}

-- the events are the map's entries, one for each key, deletions too, in key order
abbrev pub AreEntries : Objects → List Event → Type 0
AreEntries objects events = map (λ (e : Event). (e.key, entry_of e)) events ≡ entries objects

-- the history that a checkpoint under a profile leaves: these events under the kept number, and no change
abbrev pub checkpoint_of : ℕ → History → List Event → History
checkpoint_of profile h events = base_alone profile (kept h) events

-- the journal stands on both files for some history
abbrev pub IsOnSome : Journal → Outside → Type 0
IsOnSome j w = (h : History) × IsOnStore j h w

-- ---- the answer

-- the journal on the other file, under the next generation and this profile
abbrev pub gone_on : Journal → ℕ → List Event → Journal
gone_on j profile events = journal_of_base (other j.file) (j.generation + 1) j.kept profile events

-- The journal isn't closed, there is a next generation, and the file to be written stays within 2^40 bytes.
pub record MayGoOn (j : Journal) (events : List Event) : Type 0 where
  pub not_closed : j.closed ≡ false
  pub next : j.generation + 1 < 2 ^ 64
  pub room : base_size events ≤ 2 ^ 40

-- the generation is the last one, or the file to be written would pass 2^40 bytes
abbrev pub IsTooLarge : Journal → List Event → Type 0
IsTooLarge j events = (2 ^ 64 ≤ j.generation + 1) ⊎ (2 ^ 40 < base_size events)

-- Each answer of `checkpoint` with what it means; no two meet but by want of memory, and by a fault of the site. A
-- closed journal answers SiteFault and nothing else; then TooLarge comes exactly where the generation is the last one,
-- or the file to be written would be too large. A fault of the site closes the journal, and every other refusal leaves
-- it as it is.
abbrev pub CheckpointAnswer : Journal → Journal → ℕ → List Event → Result (Unit {0}) JournalError → ℕ → ℕ
    → Type 0
CheckpointAnswer old new profile events (Ok x) before now =
    MayGoOn old events × (new ≡ gone_on old profile events) × (now ≡ before)
CheckpointAnswer old new profile events (Err TooLarge) before now =
    (old.closed ≡ false) × IsTooLarge old events × (new ≡ old) × (now ≡ before)
CheckpointAnswer old new profile events (Err NoMemory) before now = (old.closed ≡ false) × (new ≡ old) × (now ≡ before)
CheckpointAnswer old new profile events (Err SiteFault) before now =
    (((old.closed ≡ true) × (now ≡ before)) ⊎ (MayGoOn old events × (before ≤ now) × Rose before now))
    × (new ≡ record old { closed = true })
CheckpointAnswer old new profile events (Err e) before now = ⊥

-- ---- the files

-- files that stand for this history, or for its checkpoint under a profile with these events, and this output
pub record LeavesCheckpoint (profile : ℕ) (h : History) (events : List Event) (output : List ℕ) (left : Left) :
    Type 0 where
  pub files : StandFor (image_of left) h ⊎ StandFor (image_of left) (checkpoint_of profile h events)
  pub out : left.out ≡ output

-- files that stand for a history that is the same for a reader as this one, and this output
abbrev pub LeavesAsRead : History → List ℕ → Left → Type 0
LeavesAsRead h output left = (i : History) × SameForReader i h × LeavesStore i output left

-- The first history has this profile, and the kept number and the objects of the second.
pub record IsRaised (to : ℕ) (g h : History) : Type 0 where
  pub profile : g.profile ≡ to
  pub number : kept g ≡ kept h
  pub objects : (M : Objects) → HasObjects g M ↔ HasObjects h M

-- Files that stand for a history with the kept number and the objects of this one, of its profile or of the given one,
-- and this output.
abbrev pub LeavesRaised : ℕ → History → List ℕ → Left → Type 0
LeavesRaised profile h output left =
    (i : History) × (SameForReader i h ⊎ IsRaised profile i h) × LeavesStore i output left

-- A stop leaves files that stand for the history, or for its checkpoint under the profile. After an Ok the journal
-- stands on them for the latter. The file that was live is left as it is.
pub record Checkpointed (old new : Journal) (profile : ℕ) (h : History) (events : List Event)
    (result : Result (Unit {0}) JournalError) (w v : Outside) : Type 0 where
  pub any_moment : LeavesOnly w v (LeavesCheckpoint profile h events w.output)
  pub ok : OnOk result (IsOnStore new (checkpoint_of profile h events) v)
  pub was_live : disk v old.file ≡ disk w old.file
  pub output : v.output ≡ w.output

-- a refusal touches no file, and neither does a closed journal
abbrev pub Checkpoints : Journal → Journal → ℕ → List Event → Result (Unit {0}) JournalError → Outside → Outside
    → Type 0
Checkpoints old new profile events (Ok x) w v =
    (h : History) → IsOnStore old h w → Checkpointed old new profile h events (Ok x) w v
Checkpoints old new profile events (Err SiteFault) w v = ((old.closed ≡ true) × (v ≡ w)) ⊎ ((old.closed ≡ false)
    × ((h : History) → IsOnStore old h w → Checkpointed old new profile h events (Err SiteFault) w v))
Checkpoints old new profile events (Err e) w v = v ≡ w

-- ---- within `checkpoint`

-- the journal after a base wasn't written
abbrev pub after_refusal : Journal → JournalError → Journal
after_refusal j SiteFault = record j { closed = true }
after_refusal j e = j
