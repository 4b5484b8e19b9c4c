-- The phases of a drive as numbers, by which a search tells them apart.
use Rattle.std.specs.Prelude.{ℕ, zero, suc, Option, Some, None}
use Rattle.context_search.specs.Phases.{PhaseRules}
use Rattle.destination_drives.specs.declared.phases.Phase.{Phase}
use Rattle.destination_drives.specs.declared.phases.Phase.TheVariants.{Before, Open, After}
use Rattle.destination_drives.specs.Phases.{started, gone}

abbrev pub number_of : Phase → ℕ
number_of Before = 0
number_of Open = 1
number_of After = 2

-- the phase of that number, the last one for all that are no phase's
abbrev pub phase_at : ℕ → Phase
phase_at zero = Before
phase_at (suc zero) = Open
phase_at (suc (suc n)) = After

abbrev pub number_on : Option Phase → Option ℕ
number_on None = None
number_on (Some f) = Some (number_of f)

-- the phases of a drive, as a search goes along them
abbrev pub zone_phases : PhaseRules
zone_phases = record {
  start = λ zone. number_of (started zone);
  go = λ phase zone. number_on (gone (phase_at phase) zone);
}
