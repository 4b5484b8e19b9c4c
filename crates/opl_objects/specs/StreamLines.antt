-- What a line of the input adds to the events, or how it is in fault.
use Rattle.std.specs.Prelude.{◌≡◌, ◌++◌, ℕ, List, [], ◌∷◌, Some, None}
use Rattle.std.specs.List.{AllZip}
use Rattle.road_base.specs.declared.event.Event.{Event}
use Rattle.opl_lexer.specs.declared.mode.Mode.{Mode}
use Rattle.opl_lexer.specs.Lines.{without_return}
use Rattle.opl_lexer.specs.Faults.{line_fault}
use Rattle.opl_lexer.specs.Spelling.{Spells}
use Rattle.opl_lexer.specs.Reading.{FaultAt, at_line, object_lines}
use Rattle.opl_objects.specs.declared.fault.Fault.{Fault as FaultValue}
use Rattle.opl_objects.specs.declared.fault.ReadError.{ReadError}
use Rattle.opl_objects.specs.declared.fault.ReadError.TheVariants.{Fault, NoMemory}

-- where the fault stands
abbrev pub fault_at : FaultValue → FaultAt
fault_at fault = record { line = fault.line; field = fault.field; kind = fault.kind }

-- The line is good, and the event that it says, if it says one, was added behind the others.
pub record Adds (mode : Mode) (line : List ℕ) (old new : List Event) : Type 0 where
  pub more : List Event
  pub added : new ≡ old ++ more
  pub good : line_fault mode (without_return line) ≡ None
  pub said : AllZip (Spells mode) (object_lines (line ∷ [])) more

-- the line with this number is in fault so, or memory ended
abbrev pub IsFaultOf : ReadError → Mode → ℕ → List ℕ → Type 0
IsFaultOf (Fault fault) mode number line = at_line number (line_fault mode (without_return line))
    ≡ Some (fault_at fault)
IsFaultOf NoMemory mode number line = Unit {0}
