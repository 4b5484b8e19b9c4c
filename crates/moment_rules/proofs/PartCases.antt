-- What a part of a conditional value says at a moment.
use Rattle.std.specs.Prelude.{◌≡◌, ℕ, List, Bool, true, false, Option, Some, None, option_map, refl}
use Rattle.std.specs.Option.{option_and_then}
use Rattle.std.proofs.Common.{ap, ◌∙◌}
use Rattle.opl_lexer.specs.Parts.{parts}
use Rattle.access_profile.specs.Restricting.{without_spaces}
use Rattle.moment_rules.specs.declared.moment.Moment.{Moment}
use Rattle.moment_rules.specs.Shapes.{one_or_two}
use Rattle.moment_rules.specs.Conditions.{Condition, condition_of, applies}
use Rattle.moment_rules.specs.Conditionals.{ConditionalPart, is_value, part_between, part_of, told_at}
use Rattle.moment_rules.specs.Conditionals.{without_parentheses}

-- no part where there is no at sign, or two
pub no_part : (text : List ℕ) → one_or_two (parts 64 text) ≡ None → part_of text ≡ None
no_part text e = ap (option_and_then part_between) e

pub no_condition : (text front : List ℕ) → one_or_two (parts 64 text) ≡ Some (front, None) → part_of text ≡ None
no_condition text front e = ap (option_and_then part_between) e

-- nor where there is no value in front
pub no_value : (text front : List ℕ) (behind : Option (List ℕ)) → one_or_two (parts 64 text) ≡ Some (front, behind)
    → is_value (without_spaces front) ≡ false → part_of text ≡ None
no_value text front None e none = ap (option_and_then part_between) e
no_value text front (Some behind) e none = ap (option_and_then part_between) e ∙ rw none refl

abbrev condition_in : List ℕ → Option Condition
condition_in behind = condition_of (without_parentheses (without_spaces behind))

abbrev with_value : List ℕ → Option Condition → Option ConditionalPart
with_value value condition = option_map (λ c. record { value = value; condition = c }) condition

part_is : (text front behind : List ℕ) → one_or_two (parts 64 text) ≡ Some (front, Some behind)
    → is_value (without_spaces front) ≡ true
    → part_of text ≡ with_value (without_spaces front) (condition_in behind)
part_is text front behind e value = ap (option_and_then part_between) e ∙ rw value refl

unread : (at : Moment) (value : List ℕ) (condition : Option Condition) → option_map (applies at) condition ≡ None
    → with_value value condition ≡ None
unread at value None e = refl
unread at value (Some condition) e = cc

read : (at : Moment) (value : List ℕ) (condition : Option Condition) (now : Bool)
    → option_map (applies at) condition ≡ Some now → told_at at (with_value value condition) ≡ Some (value, now)
read at value None now e = cc
read at value (Some condition) now e =
    let is : applies at condition ≡ now = cc in
    ap (λ b. Some (value, b)) is

-- a condition that isn't read
pub part_unread : (at : Moment) (text front behind : List ℕ) → one_or_two (parts 64 text) ≡ Some (front, Some behind)
    → is_value (without_spaces front) ≡ true → option_map (applies at) (condition_in behind) ≡ None
    → part_of text ≡ None
part_unread at text front behind e value none =
    part_is text front behind e value ∙ unread at (without_spaces front) (condition_in behind) none

-- a part that is read
pub part_read : (at : Moment) (text front behind : List ℕ) (now : Bool)
    → one_or_two (parts 64 text) ≡ Some (front, Some behind) → is_value (without_spaces front) ≡ true
    → option_map (applies at) (condition_in behind) ≡ Some now
    → told_at at (part_of text) ≡ Some (without_spaces front, now)
part_read at text front behind now e value is =
    ap (told_at at) (part_is text front behind e value) ∙ read at (without_spaces front) (condition_in behind) now is
