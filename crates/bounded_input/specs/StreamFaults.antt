-- Bytes that are whole lines, and the first fault of lines with others before them.
use Rattle.std.specs.Prelude.{◌≡◌, ◌+◌, ◌++◌, ◌∷◌, [], ℕ, List, Some}
use Rattle.opl_lexer.specs.Letters.{newline}
use Rattle.opl_lexer.specs.Parts.{Lacks}
use Rattle.opl_lexer.specs.declared.mode.Mode.{Mode}
use Rattle.opl_lexer.specs.Reading.{FaultAt, ended_fault, input_fault}
use Rattle.opl_objects.specs.StreamLines.{fault_at}
use Rattle.bounded_input.specs.Limits.{PassesAtLast, PassesStreamLimit}
use Rattle.bounded_input.specs.declared.input.InputError.{InputError}
use Rattle.bounded_input.specs.declared.input.InputError.TheVariants.{Failed, TooLong, Refused, NoMemory}

-- the bytes are cut behind their last newline
pub record IsLastCut (bytes ended rest : List ℕ) : Type 0 where
  pub written : bytes ≡ ended ++ rest
  pub front : List ℕ
  pub ends : ended ≡ front ++ newline ∷ []
  pub last : Lacks newline rest

-- the fault, where so many lines stand before those that it counts
abbrev pub behind_lines : ℕ → FaultAt → FaultAt
behind_lines lines fault = record { line = lines + fault.line; field = fault.field; kind = fault.kind }

-- the first fault of these bytes, where so many lines stand before them; or memory ended
abbrev pub IsFaultBehind : ℕ → Mode → List ℕ → InputError → Type 0
IsFaultBehind lines mode bytes Failed = ⊥
IsFaultBehind lines mode bytes TooLong = ⊥
IsFaultBehind lines mode bytes (Refused fault) =
    (first : FaultAt) × (input_fault mode bytes ≡ Some first) × (fault_at fault ≡ behind_lines lines first)
IsFaultBehind lines mode bytes NoMemory = Unit {0}

-- this is the first fault among the lines that have ended; or memory ended
abbrev pub EndsIn : Mode → List ℕ → InputError → Type 0
EndsIn mode read Failed = ⊥
EndsIn mode read TooLong = ⊥
EndsIn mode read (Refused fault) = ended_fault mode read ≡ Some (fault_at fault)
EndsIn mode read NoMemory = Unit {0}

-- the last part passes a limit; no limit is passed, and this is the first fault among the lines that have ended; or
-- memory ended
abbrev pub StreamStops : Mode → List ℕ → InputError → Type 0
StreamStops mode read Failed = ⊥
StreamStops mode read TooLong = PassesAtLast PassesStreamLimit read
StreamStops mode read (Refused fault) =
    (PassesStreamLimit read → ⊥) × (ended_fault mode read ≡ Some (fault_at fault))
StreamStops mode read NoMemory = Unit {0}
