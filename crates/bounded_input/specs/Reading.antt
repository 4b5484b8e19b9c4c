-- What is known of an input as far as it was read.
use Rattle.std.specs.Prelude.{ℕ, List}
use Rattle.opl_lexer.specs.declared.mode.Mode.{Mode}
use Rattle.opl_objects.specs.Feeding.{HasRead}
use Rattle.bounded_input.specs.Limits.{PassesLimit, PassesAtLast, Measures}
use Rattle.bounded_input.specs.declared.input.ReadInput.{ReadInput}
use Rattle.bounded_input.specs.declared.input.InputError.{InputError}
use Rattle.bounded_input.specs.declared.input.InputError.TheVariants.{Failed, TooLong, Refused, NoMemory}

-- these bytes were read, and they pass no limit
pub record Holds (mode : Mode) (read : List ℕ) (input : ReadInput) : Type 0 where
  pub measures : Measures read input.measure
  pub has_read : HasRead mode read input.reader

-- the last part passes a limit, or memory ended
abbrev pub Stops : InputError → List ℕ → Type 0
Stops Failed read = ⊥
Stops TooLong read = PassesAtLast PassesLimit read
Stops (Refused fault) read = ⊥
Stops NoMemory read = Unit {0}
