-- What a file stands for by itself, and where it is damaged.
use Rattle.std.specs.Prelude.{◌≡◌, ◌≢◌, ◌⊎◌, ℕ, ◌+◌, ◌<◌, ◌^◌, List, [], ◌∷◌, ◌++◌, length}
use Rattle.std.specs.List.{AllByRecursion}
use Rattle.road_base.specs.declared.event.Event.{Event}
use Rattle.road_base.specs.Profiles.{IsProfile}
use Rattle.road_base.specs.History.{History, kept}
use Rattle.object_codec.specs.Spelling.{events_bytes, AreEvents}
use Rattle.sequence_journal.specs.Layout.{Base, Numbered, base_bytes, record_bytes, BaseIsOpen, NoBase}
use Rattle.sequence_journal.specs.Layout.{RecordIsOpen, IsClosed}

-- ---- a history as bytes

-- the base of a history
abbrev pub base_of : ℕ → ℕ → ℕ → List Event → Base
base_of profile generation number events = record {
  profile = profile;
  generation = generation;
  number = number;
  bytes = events_bytes events;
}

-- a change under its number
abbrev pub record_of : ℕ → List Event → Numbered
record_of number change = record { number = number; bytes = events_bytes change }

-- the open records of the changes that follow a number, each with the next one
abbrev pub changes_bytes : ℕ → List (List Event) → List ℕ
changes_bytes number [] = []
changes_bytes number (change ∷ changes) =
    record_bytes (record_of (number + 1) change) ++ changes_bytes (number + 1) changes

-- an open base, and an open record for each change
abbrev pub history_bytes : ℕ → History → List ℕ
history_bytes generation h =
    base_bytes (base_of h.profile generation h.base_number h.base_events) ++ changes_bytes h.base_number h.changes

-- the list has a spelling whose length fits its field
pub record EventsFit (events : List Event) : Type 0 where
  pub are : AreEvents events
  pub size : length (events_bytes events) < 2 ^ 64

-- it has a known profile, and all its numbers fit their fields
pub record HistoryFits (generation : ℕ) (h : History) : Type 0 where
  pub profile : IsProfile h.profile
  pub generation_fits : generation < 2 ^ 64
  pub kept_fits : kept h < 2 ^ 64
  pub base : EventsFit h.base_events
  pub changes : AllByRecursion EventsFit h.changes

-- ---- a file

-- the file begins with this history, and `rest` is behind it
pub record BeginsWith (file : List ℕ) (generation : ℕ) (h : History) (rest : List ℕ) : Type 0 where
  pub split : file ≡ history_bytes generation h ++ rest
  pub fits : HistoryFits generation h

-- The file, by itself, stands for this history, under this generation: behind its records no other one is open.
pub record Stands (file : List ℕ) (generation : ℕ) (h : History) : Type 0 where
  pub rest : List ℕ
  pub begins : BeginsWith file generation h rest
  pub closed : IsClosed rest

-- the file has no open base, or stands for some history
abbrev pub IsIntact : List ℕ → Type 0
IsIntact file = NoBase file ⊎ ((generation : ℕ) × (h : History) × Stands file generation h)

-- ---- damage

-- no list of events has this spelling
abbrev pub SpellsNothing : List ℕ → Type 0
SpellsNothing bytes = (events : List Event) → AreEvents events → events_bytes events ≡ bytes → ⊥

-- the open base is of no known profile, or spells no events
pub record IsDamagedBase (file : List ℕ) (offset : ℕ) : Type 0 where
  pub base : Base
  pub rest : List ℕ
  pub is_open : BaseIsOpen file base rest
  pub fault : (IsProfile base.profile → ⊥) ⊎ SpellsNothing base.bytes
  pub place : offset ≡ 0

-- behind a history stands an open record that has another number than the next one, or spells no events
pub record IsDamagedRecord (file : List ℕ) (offset : ℕ) : Type 0 where
  pub generation : ℕ
  pub before : History
  pub next : Numbered
  pub rest : List ℕ
  pub after : List ℕ
  pub begins : BeginsWith file generation before rest
  pub is_open : RecordIsOpen rest next after
  pub fault : (next.number ≢ kept before + 1) ⊎ SpellsNothing next.bytes
  pub place : offset ≡ length (history_bytes generation before)

-- the first open part at fault, the base or a record, has its gate at this offset
abbrev pub DamagedAt : List ℕ → ℕ → Type 0
DamagedAt file offset = IsDamagedBase file offset ⊎ IsDamagedRecord file offset
