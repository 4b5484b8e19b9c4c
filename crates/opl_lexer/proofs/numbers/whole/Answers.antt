use Rattle.std.proofs.Common.{rules, ◌≡◌, ◌&&◌, ℕ, ℤ, List, Option, None}
use Rattle.std.specs.Prelude.{SomeIff, FitsSigned}
use Rattle.std.specs.Int.{w64}
use Rattle.std.specs.Str.Parse.{IsNumeral}
use Rattle.std.proofs.lemmas.Bool.Decides.{Decides-and}
use Rattle.opl_lexer.specs.Numbers.{magnitude, whole_value, whole_of, is_numeral, is_i64}
use Rattle.opl_lexer.proofs.Numerals.{decides_numeral, decides_i64, chosen}
use Rattle.opl_lexer.proofs.numbers.whole.Goals as goal

abbrev IsWhole : List ℕ → Type 0
IsWhole text = IsNumeral 10 (magnitude text) × FitsSigned w64 (whole_value text)

-- what tells exactly is what the definition tells
exactly : (text : List ℕ) (o : Option ℤ) → SomeIff o (IsWhole text) (whole_value text) → o ≡ whole_of text
exactly text o h = chosen o (is_numeral (magnitude text) && is_i64 (whole_value text)) (IsWhole text) (whole_value text)
    (Decides-and (is_numeral (magnitude text)) (is_i64 (whole_value text)) (decides_numeral (magnitude text))
    (decides_i64 (whole_value text))) h

pub returns-in_default : goal.returns-in_default
returns-in_default c =
    let told : SomeIff None (IsWhole c.args.text.now) (whole_value c.args.text.now) = search rules in
    exactly c.args.text.now None told

pub returns-then-minus : goal.returns-then-minus
returns-then-minus c =
    let told : SomeIff c.checked_sub_unsigned.result (IsWhole c.args.text.now) (whole_value c.args.text.now) = search
    rules in
    exactly c.args.text.now c.checked_sub_unsigned.result told

pub returns-else-minus : goal.returns-else-minus
returns-else-minus c =
    let told : SomeIff c.checked_add_unsigned.result (IsWhole c.args.text.now) (whole_value c.args.text.now) = search
    rules in
    exactly c.args.text.now c.checked_add_unsigned.result told
