-- Texts with escapes: `%h%` stands for the character whose code is h. (OPL File Format Manual.)
use Rattle.std.specs.Prelude.{◌++◌, [], ◌∷◌, ◌&&◌, ℕ, List, Bool, cond, nat_lt, nat_le, length, Option, Some, None}
use Rattle.std.specs.Char.{digit_value, encode_utf8}
use Rattle.std.specs.List.{list_all}
use Rattle.std.specs.Str.{all_scalars}
use Rattle.std.specs.Str.Parse.{digits_value}
use Rattle.opl_lexer.specs.Letters.{percent_sign}
use Rattle.opl_lexer.specs.Parts.{parts}

-- a hexadecimal digit of either case
abbrev pub is_hex : ℕ → Bool
is_hex b = nat_lt (digit_value b) 16

abbrev pub is_hexadecimal : List ℕ → Bool
is_hexadecimal code = list_all is_hex code

abbrev pub has_a_digit : List ℕ → Bool
has_a_digit code = nat_le 1 (length code)

abbrev pub has_at_most_six : List ℕ → Bool
has_at_most_six code = nat_le (length code) 6

-- the value is a Unicode scalar value
abbrev pub is_of_scalar : List ℕ → Bool
is_of_scalar code = all_scalars (digits_value 16 code ∷ [])

-- one to six hexadecimal digits, whose value is a Unicode scalar value
abbrev pub is_code : List ℕ → Bool
is_code code = is_hexadecimal code && (has_a_digit code && (has_at_most_six code && is_of_scalar code))

-- the UTF-8 of the character with this code
unfoldable pub character : List ℕ → Option (List ℕ)
character code = cond (is_code code) (Some (encode_utf8 (digits_value 16 code))) None

-- a text, a character and what follows, joined where both are known
abbrev pub joined : List ℕ → Option (List ℕ) → Option (List ℕ) → Option (List ℕ)
joined text (Some c) (Some rest) = Some (text ++ (c ++ rest))
joined text (Some c) None = None
joined text None rest = None

-- the parts between percent signs are by turns text and code, the last of them text
abbrev pub read_parts : List (List ℕ) → Option (List ℕ)
read_parts [] = None
read_parts (text ∷ []) = Some text
read_parts (text ∷ code ∷ others) = joined text (character code) (read_parts others)

-- a text with its escapes read; None where an escape isn't in form
abbrev pub unescaped : List ℕ → Option (List ℕ)
unescaped text = read_parts (parts percent_sign text)
