-- Texts of a fixed shape, and texts of a few parts.
use Rattle.std.specs.Prelude.{◌==◌, ◌&&◌, ℕ, List, [], ◌∷◌, Bool, true, false, cond, Option, Some, None, take, drop}
use Rattle.std.specs.Prelude.{nat_lt, option_map}
use Rattle.std.specs.Option.{option_and_then}
use Rattle.std.specs.Char.{digit_value}
use Rattle.std.specs.Str.Parse.{digits_value}
use Rattle.opl_lexer.specs.Parts.{parts}
use Rattle.moment_rules.specs.Letters.{digit_zero}

-- a character of the shape is met by itself, and its 0 by any digit
abbrev pub meets : ℕ → ℕ → Bool
meets s b = cond (s == digit_zero) (nat_lt (digit_value b) 10) (b == s)

-- a text has the shape where each of its characters meets that of the shape, one for one
abbrev pub has_shape : List ℕ → List ℕ → Bool
has_shape [] [] = true
has_shape [] (b ∷ bs) = false
has_shape (s ∷ ss) [] = false
has_shape (s ∷ ss) (b ∷ bs) = meets s b && has_shape ss bs

-- the number that the digits from a place on spell, so many
abbrev pub number_at : ℕ → ℕ → List ℕ → ℕ
number_at place count text = digits_value 10 (take count (drop place text))

-- the parts of what is left of a text, of which nothing may be left
abbrev pub parts_left : ℕ → Option (List ℕ) → List (List ℕ)
parts_left stop None = []
parts_left stop (Some rest) = parts stop rest

-- one part alone, or two
abbrev pub one_or_two : List (List ℕ) → Option (List ℕ × Option (List ℕ))
one_or_two [] = None
one_or_two (a ∷ []) = Some (a, None)
one_or_two (a ∷ b ∷ []) = Some (a, Some b)
one_or_two (a ∷ b ∷ c ∷ more) = None

-- what all parts say in turn, where each of them says something
abbrev pub all_said : {A : Type 0} → (List ℕ → Option A) → List (List ℕ) → Option (List A)
all_said said [] = Some []
all_said said (part ∷ others) =
    option_and_then (λ a. option_map (λ more. a ∷ more) (all_said said others)) (said part)
