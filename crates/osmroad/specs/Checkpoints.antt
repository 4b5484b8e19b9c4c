-- What a checkpoint writes of a store.
use Rattle.std.specs.Prelude.{◌≡◌, ◌⊎◌, ℕ, ◌+◌, ◌<◌, ◌≤◌, ◌^◌, List, Option, None, Some}
use Rattle.road_base.specs.declared.event.Event.{Event}
use Rattle.road_base.specs.History.{History, HasObjects, SameForReader, kept}
use Rattle.road_base.specs.Objects.{Objects}
use Rattle.sequence_journal.specs.Basing.{base_size}
use Rattle.store_switch.specs.Checkpointing.{AreEntries, IsRaised, checkpoint_of}
use Rattle.osmroad.specs.declared.command.BaseProfile.{BaseProfile}
use Rattle.osmroad.specs.declared.command.BaseProfile.TheVariants.{Kept, Raised}
use Rattle.last_words.specs.declared.status.Status.{Status}
use Rattle.last_words.specs.declared.status.Status.TheVariants.{Done, Limit}
use Rattle.osmroad.specs.Opening.{Files, IsStore, StoreRefusal}
use Rattle.last_words.specs.Texts.{limit_line}
use Rattle.osmroad.specs.Texts.{checkpoint_line, raise_line}

-- one event for each entry of the history's objects, deletions too, in key order
pub record AreItsEntries (h : History) (events : List Event) : Type 0 where
  pub objects : Objects
  pub has : HasObjects h objects
  pub are : AreEntries objects events

-- there is no next generation of 64 bits, or the file to be written would have more than 2^40 bytes
abbrev pub HasNoRoom : ℕ → List Event → Type 0
HasNoRoom generation events = (2 ^ 64 ≤ generation + 1) ⊎ (2 ^ 40 < base_size events)

-- the profile of the base that a store of this one gets: the same, or profile 2
abbrev pub profile_of_base : BaseProfile → ℕ → ℕ
profile_of_base Kept profile = profile
profile_of_base Raised profile = 2

-- the line that tells of the base, of the kept number
abbrev pub base_line : BaseProfile → ℕ → List ℕ
base_line Kept number = checkpoint_line number
base_line Raised number = raise_line number

-- the history with these events as its base, under its own profile or under profile 2, and no change
abbrev pub checkpointed : BaseProfile → History → List Event → History
checkpointed base h events = checkpoint_of (profile_of_base base h.profile) h events

-- a reader finds the kept number and the objects of the second history in the first one, and its profile or profile 2
abbrev pub IsCheckpointOf : BaseProfile → History → History → Type 0
IsCheckpointOf Kept g h = SameForReader g h
IsCheckpointOf Raised g h = IsRaised 2 g h

-- `STORE checkpoint` and `STORE raise`: the files then stand for the kept number and the entries as a base, with no
-- change, under the profile that they had or under profile 2
pub data CheckpointGives (base : BaseProfile) (files : Files) (status : Status) (out : List ℕ)
    (after : Option History) : Type 0 where
  OfStore : StoreRefusal files status out → after ≡ None → CheckpointGives base files status out after
  OfNoRoom : (s : IsStore files) → (events : List Event) → AreItsEntries s.history events
      → HasNoRoom s.generation events
      → status ≡ Limit → out ≡ limit_line → after ≡ Some s.history
      → CheckpointGives base files status out after
  OfEntries : (s : IsStore files) → (events : List Event) → AreItsEntries s.history events
      → (HasNoRoom s.generation events → ⊥)
      → status ≡ Done → out ≡ base_line base (kept s.history)
      → after ≡ Some (checkpointed base s.history events)
      → CheckpointGives base files status out after
