-- What is known of a stream as far as it was read.
use Rattle.std.specs.Prelude.{◌≡◌, ℕ, List}
use Rattle.road_base.specs.declared.event.Event.{Event}
use Rattle.opl_lexer.specs.declared.mode.Mode.{Mode}
use Rattle.opl_objects.specs.Feeding.{IsOpen}
use Rattle.bounded_input.specs.Limits.{Measures}
use Rattle.bounded_input.specs.declared.stream.OpenStream.{OpenStream}

-- the bytes are whole lines, which gave these events, and then what is held
pub record KeepsLines (mode : Mode) (read : List ℕ) (events : List Event) (stream : OpenStream) : Type 0 where
  pub mode_is : stream.mode ≡ mode
  pub open_lines : IsOpen mode read stream.held.items events stream.lines

-- these bytes were read, they pass no limit, and their whole lines gave these events
pub record IsOpenAt (mode : Mode) (read : List ℕ) (events : List Event) (stream : OpenStream) : Type 0 where
  pub measures : Measures read stream.measure
  pub keeps : KeepsLines mode read events stream
