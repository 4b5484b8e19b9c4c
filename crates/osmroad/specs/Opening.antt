-- What the two files of a store say when a run begins.
use Rattle.std.specs.Prelude.{◌≡◌, ℕ, ◌+◌, ◌<◌, ◌≤◌, ◌^◌, List, length}
use Rattle.road_base.specs.declared.event.Event.{Event}
use Rattle.road_base.specs.History.{History}
use Rattle.object_codec.specs.Spelling.{events_bytes}
use Rattle.road_io.specs.declared.outside.Which.{Which}
use Rattle.sequence_journal.specs.Standing.{DamagedAt, history_bytes}
use Rattle.store_switch.specs.LiveFile.{IsLive, NoBases}
use Rattle.store_switch.specs.TwoFiles.{StandOn}
use Rattle.last_words.specs.declared.status.Status.{Status}
use Rattle.last_words.specs.declared.status.Status.TheVariants.{NoStore, Damaged, Limit}
use Rattle.last_words.specs.Texts.{limit_line}
use Rattle.osmroad.specs.Texts.{no_store_line, damaged_line}

-- the bytes of the two files
abbrev pub Files : Type 0
Files = Which → List ℕ

-- They are a store: the live one, of at most 2^40 bytes, holds this history under this generation.
pub record IsStore (files : Files) : Type 0 where
  pub live : Which
  pub generation : ℕ
  pub history : History
  pub stands : StandOn live generation files history
  pub small : length (files live) ≤ 2 ^ 40

-- the live file has more than 2^40 bytes
pub record IsTooLarge (files : Files) : Type 0 where
  pub live : Which
  pub is_live : IsLive live files
  pub large : 2 ^ 40 < length (files live)

-- this one is the live file, has at most 2^40 bytes, and is damaged at this byte
pub record IsDamaged (file : Which) (offset : ℕ) (files : Files) : Type 0 where
  pub is_live : IsLive file files
  pub small : length (files file) ≤ 2 ^ 40
  pub damage : DamagedAt (files file) offset

-- why files aren't loaded, with the status and the line that say so
pub data StoreRefusal (files : Files) (status : Status) (out : List ℕ) : Type 0 where
  OfNoStore : NoBases files → status ≡ NoStore → out ≡ no_store_line → StoreRefusal files status out
  OfTooLarge : IsTooLarge files → status ≡ Limit → out ≡ limit_line → StoreRefusal files status out
  OfDamage : (file : Which) (offset : ℕ) → IsDamaged file offset files
      → status ≡ Damaged → out ≡ damaged_line file offset → StoreRefusal files status out

-- how many bytes the live file has up to its next gate, that gate included, if this change is added
abbrev pub size_with_change : ℕ → History → List Event → ℕ
size_with_change generation h change = length (history_bytes generation h) + (18 + length (events_bytes change))
