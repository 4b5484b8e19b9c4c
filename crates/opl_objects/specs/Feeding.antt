-- What a reader knows of the bytes that were fed to it.
use Rattle.std.specs.Prelude.{◌≡◌, ◌≤◌, ◌+◌, ◌++◌, ℕ, List, [], ◌∷◌, length, vec_len, Option, Some, None}
use Rattle.std.specs.List.{AllZip}
use Rattle.road_base.specs.declared.event.Event.{Event}
use Rattle.opl_lexer.specs.Letters.{newline}
use Rattle.opl_lexer.specs.declared.mode.Mode.{Mode}
use Rattle.opl_lexer.specs.Parts.{Lacks, parts}
use Rattle.opl_lexer.specs.Lines.{whole_lines}
use Rattle.opl_lexer.specs.Spelling.{Spells}
use Rattle.opl_lexer.specs.Reading.{ended_fault, input_fault, object_lines}
use Rattle.opl_objects.specs.StreamLines.{fault_at}
use Rattle.opl_objects.specs.declared.fault.ReadError.{ReadError}
use Rattle.opl_objects.specs.declared.fault.ReadError.TheVariants.{Fault, NoMemory}
use Rattle.opl_objects.specs.declared.reader.Reader.{Reader}

-- the refusal that the reader answers from now on, if there is one
abbrev pub answered : Reader → Option ReadError
answered reader = reader.error

-- the lines that have ended and the bytes that are held, no more than the bytes that were fed
abbrev pub counted : Reader → ℕ
counted reader = reader.lines + vec_len reader.held

-- the first fault among the lines that have ended, or want of memory
abbrev pub EndedBy : ReadError → Mode → List ℕ → Type 0
EndedBy (Fault fault) mode fed = ended_fault mode fed ≡ Some (fault_at fault)
EndedBy NoMemory mode fed = Unit {0}

-- the first fault of all that was fed, or want of memory
abbrev pub RefusedBy : ReadError → Mode → List ℕ → Type 0
RefusedBy (Fault fault) mode fed = input_fault mode fed ≡ Some (fault_at fault)
RefusedBy NoMemory mode fed = Unit {0}

-- The bytes are so many whole lines without a fault, which gave these events, and then what is held.
pub record IsOpen (mode : Mode) (fed held : List ℕ) (events : List Event) (lines : ℕ) : Type 0 where
  pub split : parts newline fed ≡ whole_lines fed ++ (held ∷ [])
  pub open_line : Lacks newline held
  pub count : lines ≡ length (whole_lines fed)
  pub good : ended_fault mode fed ≡ None
  pub said : AllZip (Spells mode) (object_lines (whole_lines fed)) events

abbrev pub Stands : Option ReadError → Mode → List ℕ → Reader → Type 0
Stands None mode fed reader = IsOpen mode fed reader.held.items reader.events.items reader.lines
Stands (Some error) mode fed reader = EndedBy error mode fed

-- The reader was fed these bytes.
pub record HasRead (mode : Mode) (fed : List ℕ) (reader : Reader) : Type 0 where
  pub mode_is : reader.mode ≡ mode
  pub stands : Stands reader.error mode fed reader
  pub fits : counted reader ≤ length fed
