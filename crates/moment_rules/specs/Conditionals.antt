-- What a conditional value says at a moment (OSM wiki, Conditional restrictions), as
-- `no @ (Mo-Fr 22:00-06:00); destination @ Su`.
use Rattle.std.specs.Prelude.{◌==◌, ◌&&◌, ℕ, List, [], ◌∷◌, Bool, not, cond, Option, Some, None, option_map, unwrap_or}
use Rattle.std.specs.Prelude.{find, length, nat_lt, reverse}
use Rattle.std.specs.Option.{option_and_then}
use Rattle.std.specs.List.{list_any}
use Rattle.access_profile.specs.Restricting.{without_spaces}
use Rattle.opl_lexer.specs.Parts.{parts}
use Rattle.moment_rules.specs.declared.moment.Moment.{Moment}
use Rattle.moment_rules.specs.declared.reading.Reading.{Reading}
use Rattle.moment_rules.specs.declared.reading.Reading.TheVariants.{Unread, Quiet, Value}
use Rattle.moment_rules.specs.Letters.{space, open_parenthesis, close_parenthesis, semicolon, at_sign}
use Rattle.moment_rules.specs.Shapes.{one_or_two, all_said}
use Rattle.moment_rules.specs.Conditions.{Condition, condition_of, applies}

-- a part of a value: what it says, and when
pub record ConditionalPart : Type 0 where
  pub value : List ℕ
  pub condition : Condition

-- one character or more, and no space
abbrev pub is_value : List ℕ → Bool
is_value text = nat_lt 0 (length text) && not (list_any (λ b. b == space) text)

-- what stands before a closing parenthesis at the end, by the text read from its end
abbrev pub before_close : List ℕ → Option (List ℕ)
before_close [] = None
before_close (b ∷ bs) = cond (b == close_parenthesis) (Some (reverse bs)) None

-- without the parentheses around it, if it stands in a pair of them
abbrev pub without_parentheses : List ℕ → List ℕ
without_parentheses [] = []
without_parentheses (b ∷ bs) =
    cond (b == open_parenthesis) (unwrap_or (before_close (reverse bs)) (b ∷ bs)) (b ∷ bs)

-- what stands before the at sign and what stands behind it, spaces around both dropped
abbrev pub part_between : List ℕ × Option (List ℕ) → Option ConditionalPart
part_between (text, None) = None
part_between (front, Some behind) =
    cond (is_value (without_spaces front))
    (option_map (λ condition. record { value = without_spaces front; condition = condition })
    (condition_of (without_parentheses (without_spaces behind))))
    None

abbrev pub part_of : List ℕ → Option ConditionalPart
part_of text = option_and_then part_between (one_or_two (parts at_sign text))

-- the value of a part, and whether the part applies at the moment
abbrev pub told_at : Moment → Option ConditionalPart → Option (List ℕ × Bool)
told_at at part = option_map (λ p. (p.value, applies at p.condition)) part

-- the parts of a value; None where one of them has another form: then the value is unread
abbrev pub parts_of : List ℕ → Option (List ConditionalPart)
parts_of value = all_said part_of (parts semicolon value)

-- the last of the parts that applies at the moment says the value
abbrev pub last_value : Moment → List ConditionalPart → Option (List ℕ)
last_value at ps = option_map (λ p. p.value) (find (λ p. applies at p.condition) (reverse ps))

-- the value that some part says at the moment; None where the value is unread, and where no part applies
abbrev pub value_at : Moment → List ℕ → Option (List ℕ)
value_at at value = option_and_then (last_value at) (parts_of value)

-- What a value says at a moment: None where it is unread; and else the value of the last part that applies, if one
-- does.
abbrev pub said_at : Moment → List ℕ → Option (Option (List ℕ))
said_at at value = option_map (last_value at) (parts_of value)

-- what a reading says, in these terms
abbrev pub said_by : Reading → Option (Option (List ℕ))
said_by Unread = None
said_by Quiet = Some None
said_by (Value text) = Some (Some text.now)
