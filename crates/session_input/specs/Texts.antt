-- The text of a line that was received.
use Rattle.std.specs.Prelude.{ℕ, List, Option, Some, None, string_bytes}
use Rattle.session_input.specs.declared.line.Line.{Line}
use Rattle.session_input.specs.declared.line.Line.TheVariants.{Text, Held, NoText}

-- the text, if the line is UTF-8
abbrev pub text_of : Line → Option (List ℕ)
text_of (Text text) = Some text.now
text_of (Held text) = Some (string_bytes text)
text_of NoText = None
