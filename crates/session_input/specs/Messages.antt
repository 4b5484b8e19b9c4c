-- The messages of a session: lines, and frames of lines.
use Rattle.std.specs.Prelude.{◌≡◌, ◌^◌, ℕ, List, [], ◌∷◌, ◌++◌, Option, Some, None, cond, codes, bytes_eq, Contains}
use Rattle.std.specs.Option.{option_and_then}
use Rattle.std.specs.Str.{is_utf8}
use Rattle.road_base.specs.Bytes.{joined}
use Rattle.opl_lexer.specs.Letters.{newline}
use Rattle.opl_lexer.specs.Parts.{Lacks}
use Rattle.opl_lexer.specs.Numbers.{number_below}
use Rattle.opl_lexer.specs.Lines.{whole_lines, without_return}
use Rattle.opl_lexer.specs.Fields.{fields}

-- ---- lines

-- the text of a line: one carriage return before its end is dropped, and it must be UTF-8
abbrev pub line_text : List ℕ → Option (List ℕ)
line_text line = cond (is_utf8 (without_return line)) (Some (without_return line)) None

-- the number of a frame that begins with these words: it stands alone behind `#seq`, digits, a value of 64 bits
abbrev pub frame_of_words : List (List ℕ) → Option ℕ
frame_of_words [] = None
frame_of_words (one ∷ []) = None
frame_of_words (name ∷ word ∷ []) = cond (bytes_eq name (codes "#seq")) (number_below (2 ^ 64) word) None
frame_of_words (one ∷ two ∷ three ∷ more) = None

-- the number of the frame that the line begins
abbrev pub begun_frame : List ℕ → Option ℕ
begun_frame line = option_and_then (λ text. frame_of_words (fields text)) (line_text line)

-- the line's only word is `#end`
abbrev pub IsFrameEnd : List ℕ → Type 0
IsFrameEnd line = fields (without_return line) ≡ codes "#end" ∷ []

-- the bytes are whole lines, none of which ends a frame
pub record AreInner (bytes : List ℕ) : Type 0 where
  pub ended : bytes ≡ joined (λ line. line ++ newline ∷ []) (whole_lines bytes)
  pub inner : (line : List ℕ) → Contains (whole_lines bytes) line → IsFrameEnd line → ⊥

-- ---- messages

-- a line outside a frame, with its text, none where it isn't UTF-8; or a frame, with its number and the bytes of the
-- lines between its first and its last
pub data Message : Type 0 where
  Line : Option (List ℕ) → Message
  Frame : ℕ → List ℕ → Message

-- the bytes are a line with its newline, which begins no frame, and this is its text
pub record IsLine (text : Option (List ℕ)) (bytes : List ℕ) : Type 0 where
  pub line : List ℕ
  pub one : Lacks newline line
  pub spelled : bytes ≡ line ++ newline ∷ []
  pub is : line_text line ≡ text
  pub no_frame : begun_frame line ≡ None

-- the bytes begin a frame: a line that begins it, and lines behind it, of which none ends it
pub record BeginsFrame (number : ℕ) (body bytes : List ℕ) : Type 0 where
  pub first : List ℕ
  pub one : Lacks newline first
  pub begins : begun_frame first ≡ Some number
  pub inner : AreInner body
  pub spelled : bytes ≡ first ++ newline ∷ body

-- the bytes are a frame, its last line with the newline
pub record IsFrame (number : ℕ) (body bytes : List ℕ) : Type 0 where
  pub front : List ℕ
  pub begins : BeginsFrame number body front
  pub last : List ℕ
  pub one : Lacks newline last
  pub ends : IsFrameEnd last
  pub spelled : bytes ≡ front ++ (last ++ newline ∷ [])

abbrev pub IsMessage : Message → List ℕ → Type 0
IsMessage (Line text) bytes = IsLine text bytes
IsMessage (Frame number body) bytes = IsFrame number body bytes

-- ---- what is no whole message yet

-- a line that has no newline yet, maybe with no byte; or a frame that isn't ended, and such a line in it
pub data IsOpen (bytes : List ℕ) : Type 0 where
  InLine : Lacks newline bytes → IsOpen bytes
  InFrame : (number : ℕ) (body front line : List ℕ) → BeginsFrame number body front → Lacks newline line
      → bytes ≡ front ++ line → IsOpen bytes
