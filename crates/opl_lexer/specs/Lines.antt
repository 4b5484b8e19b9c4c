-- The lines of an input. (OPL File Format Manual.)
use Rattle.std.specs.Prelude.{◌-◌, ◌==◌, ℕ, List, [], ◌∷◌, cond, length, take, slice_index}
use Rattle.opl_lexer.specs.Letters.{newline, carriage_return}
use Rattle.opl_lexer.specs.Parts.{parts}

-- all but an empty last part
unfoldable pub ended : List (List ℕ) → List (List ℕ)
ended [] = []
ended ([] ∷ []) = []
ended (line ∷ lines) = line ∷ ended lines

-- each line ends at a newline, and a last one without a newline counts if it has a byte
abbrev pub lines : List ℕ → List (List ℕ)
lines bytes = ended (parts newline bytes)

-- the lines that have ended, and what may still go on
abbrev pub whole_lines : List ℕ → List (List ℕ)
whole_lines bytes = take (length (parts newline bytes) - 1) (parts newline bytes)

-- one carriage return before the end is dropped
abbrev pub without_return : List ℕ → List ℕ
without_return line = cond (slice_index line (length line - 1) == carriage_return) (take (length line - 1) line) line
