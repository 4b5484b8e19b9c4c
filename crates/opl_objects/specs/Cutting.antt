-- Texts, cut at the first place where a byte stands.
use Rattle.std.specs.Prelude.{◌&&◌, nat_lt, ℕ, List, [], Bool, Option, Some, None}
use Rattle.opl_lexer.specs.Parts.{parts}

-- the parts of what stands behind the byte, and none where it stands nowhere
abbrev pub other_parts : ℕ → Option (List ℕ) → List (List ℕ)
other_parts stop None = []
other_parts stop (Some rest) = parts stop rest

-- a byte of ASCII, with which a text may begin
abbrev pub is_letter : ℕ → Bool
is_letter b = nat_lt 0 b && nat_lt b 128
