-- What a whole input gives: the first fault, or the events of all lines. (OPL File Format Manual.)
use Rattle.std.specs.Prelude.{◌≡◌, ◌+◌, ℕ, List, [], ◌∷◌, Bool, not, map, Option, None}
use Rattle.std.specs.Option.{option_map, option_or}
use Rattle.std.specs.List.{AllZip, filter}
use Rattle.road_base.specs.declared.event.Event.{Event}
use Rattle.opl_lexer.specs.declared.fault.FaultKind.{FaultKind}
use Rattle.opl_lexer.specs.declared.mode.Mode.{Mode}
use Rattle.opl_lexer.specs.Fields.{fields}
use Rattle.opl_lexer.specs.Lines.{lines, whole_lines, without_return}
use Rattle.opl_lexer.specs.Faults.{line_fault, is_passed_over}
use Rattle.opl_lexer.specs.Spelling.{Spells}

-- where a fault stands: the line, the field and the kind
pub record FaultAt : Type 0 where
  pub line : ℕ
  pub field : ℕ
  pub kind : FaultKind

abbrev pub at_line : ℕ → Option (ℕ × FaultKind) → Option FaultAt
at_line k fault = option_map (λ f. record { line = k; field = f.0; kind = f.1 }) fault

-- the fault of the first line in fault, where these lines have numbers from k on
unfoldable pub first_fault : Mode → ℕ → List (List ℕ) → Option FaultAt
first_fault mode k [] = None
first_fault mode k (line ∷ others) = option_or (at_line k (line_fault mode (without_return line)))
    (first_fault mode (k + 1) others)

-- the first fault of the input; lines are counted from 1, all of them
abbrev pub input_fault : Mode → List ℕ → Option FaultAt
input_fault mode bytes = first_fault mode 1 (lines bytes)

-- the first fault among the lines that have ended
abbrev pub ended_fault : Mode → List ℕ → Option FaultAt
ended_fault mode bytes = first_fault mode 1 (whole_lines bytes)

-- the line is of an object
abbrev pub is_taken : List ℕ → Bool
is_taken line = not (is_passed_over (fields line))

-- the lines of objects, without their carriage returns
abbrev pub object_lines : List (List ℕ) → List (List ℕ)
object_lines ls = filter is_taken (map without_return ls)

-- No line is in fault, and these are the events of all lines that aren't passed over, in order.
pub record ReadAll (mode : Mode) (bytes : List ℕ) (events : List Event) : Type 0 where
  pub good : input_fault mode bytes ≡ None
  pub each : AllZip (Spells mode) (object_lines (lines bytes)) events
