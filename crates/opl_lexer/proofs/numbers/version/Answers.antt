use Rattle.std.proofs.Common.{rules, ◌≡◌, ◌<◌, ◌^◌, ◌&&◌, ℕ, List, Option, None}
use Rattle.std.specs.Prelude.{SomeIff, nat_lt}
use Rattle.std.specs.Str.Parse.{IsNumeral, digits_value}
use Rattle.std.proofs.lemmas.Bool.Decides.{Decides-and, Decides-ltb}
use Rattle.opl_lexer.specs.Numbers.{version_of, is_numeral}
use Rattle.opl_lexer.proofs.Numerals.{decides_numeral, chosen}
use Rattle.opl_lexer.proofs.numbers.version.Goals as goal

abbrev IsVersion : List ℕ → Type 0
IsVersion text = IsNumeral 10 text × (digits_value 10 text < 2 ^ 32)

-- what tells exactly is what the definition tells
exactly : (text : List ℕ) (o : Option ℕ) → SomeIff o (IsVersion text) (digits_value 10 text) → o ≡ version_of text
exactly text o h = chosen o (is_numeral text && nat_lt (digits_value 10 text) 4294967296) (IsVersion text)
    (digits_value 10 text)
    (Decides-and (is_numeral text) (nat_lt (digits_value 10 text) 4294967296) (decides_numeral text)
    (Decides-ltb (digits_value 10 text) 4294967296)) h

pub returns-in_default : goal.returns-in_default
returns-in_default c =
    let told : SomeIff None (IsVersion c.args.text.now) (digits_value 10 c.args.text.now) = search rules in
    exactly c.args.text.now None told

pub returns : goal.returns
returns c =
    let told : SomeIff c.ok.result (IsVersion c.args.text.now) (digits_value 10 c.args.text.now) = search rules in
    exactly c.args.text.now c.ok.result told
