-- What fields and lines give.
use Rattle.std.specs.Prelude.{◌≡◌, ℕ, List, Option, Some, None, IsTrue}
use Rattle.road_base.specs.declared.event.Event.{Event}
use Rattle.opl_lexer.specs.declared.fault.LexError.{LexError}
use Rattle.opl_lexer.specs.declared.fault.LexError.TheVariants.{Kind, NoMemory as NoRoom}
use Rattle.opl_lexer.specs.declared.mode.Mode.{Mode}
use Rattle.opl_lexer.specs.Fields.{fields}
use Rattle.opl_lexer.specs.Contents.{Parsed, Good, Bad}
use Rattle.opl_lexer.specs.Faults.{line_fault, is_passed_over}
use Rattle.opl_lexer.specs.Spelling.{Spells}
use Rattle.opl_objects.specs.declared.line.LineError.{LineError}
use Rattle.opl_objects.specs.declared.line.LineError.TheVariants.{Fault, NoMemory}

-- the text holds this value
abbrev pub IsGood : {A : Type 0} → Parsed A → A → Type 0
IsGood held value = held ≡ Good value

-- the text is in fault so, or memory ended
abbrev pub IsBad : {A : Type 0} → Parsed A → LexError → Type 0
IsBad held (Kind kind) = held ≡ Bad kind
IsBad held NoRoom = Unit {0}

-- the line is good, and it is passed over or says this event
abbrev pub Says : Mode → List ℕ → Option Event → Type 0
Says mode line None = (line_fault mode line ≡ None) × IsTrue (is_passed_over (fields line))
Says mode line (Some event) = Spells mode line event

-- the line is in fault so, or memory ended
abbrev pub Refuses : Mode → List ℕ → LineError → Type 0
Refuses mode line (Fault field kind) = line_fault mode line ≡ Some (field, kind)
Refuses mode line NoMemory = Unit {0}
