-- Laws that lemmas here take as they are called.
use Rattle.std.proofs.Common.{◌≡◌, ℕ, List}
use Rattle.road_base.specs.declared.event.Event.{Event}
use Rattle.road_base.specs.Objects.{Objects}
use Rattle.road_base.specs.Applying.{IsApplied}
use Rattle.opl_lexer.specs.declared.mode.Mode.{Mode}
use Rattle.opl_lexer.specs.Reading.{ReadAll}
use Rattle.sequence_journal.specs.Standing.{DamagedAt}

-- events leave one object map
abbrev pub OneMap : Type 0
OneMap = (M N O : Objects) (events : List Event) → IsApplied M events N → IsApplied M events O → N ≡ O

-- an input gives at most one list of events
abbrev pub OneReading : Type 0
OneReading = (mode : Mode) (bytes : List ℕ) (events others : List Event)
    → ReadAll mode bytes events → ReadAll mode bytes others → events ≡ others

-- a file is damaged at one place at most
abbrev pub OneDamage : Type 0
OneDamage = (file : List ℕ) (offset place : ℕ) → DamagedAt file offset → DamagedAt file place → offset ≡ place
