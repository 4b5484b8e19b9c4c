use Rattle.std.proofs.Common.{rules, ◌≡◌, ◌<◌, ◌^◌, ◌&&◌, ℕ, List, Option}
use Rattle.std.specs.Prelude.{SomeIff, nat_lt}
use Rattle.std.specs.Str.Parse.{IsNumeral, digits_value}
use Rattle.std.proofs.lemmas.Bool.Decides.{Decides-and, Decides-ltb}
use Rattle.opl_lexer.specs.Numbers.{number_below, is_numeral}
use Rattle.opl_lexer.proofs.Numerals.{decides_numeral, chosen}
use Rattle.opl_lexer.proofs.numbers.long_number.Goals as goal

abbrev IsLong : List ℕ → Type 0
IsLong text = IsNumeral 10 text × (digits_value 10 text < 2 ^ 64)

-- what tells exactly is what the definition tells
exactly : (text : List ℕ) (o : Option ℕ) → SomeIff o (IsLong text) (digits_value 10 text)
    → o ≡ number_below 18446744073709551616 text
exactly text o h = chosen o (is_numeral text && nat_lt (digits_value 10 text) 18446744073709551616) (IsLong text)
    (digits_value 10 text)
    (Decides-and (is_numeral text) (nat_lt (digits_value 10 text) 18446744073709551616) (decides_numeral text)
    (Decides-ltb (digits_value 10 text) 18446744073709551616)) h

pub returns : goal.returns
returns c =
    let told : SomeIff c.digits.result (IsLong c.args.text.now) (digits_value 10 c.args.text.now) = search rules in
    exactly c.args.text.now c.digits.result told
