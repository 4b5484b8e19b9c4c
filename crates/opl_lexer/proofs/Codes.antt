-- Codes of characters, read from their digits.
use Rattle.std.specs.Prelude.{◌≡◌, ◌≤◌, ◌<◌, ◌^◌, ◌==◌, ◌&&◌, ℕ, List, [], ◌∷◌, Bool, true, false, IsTrue, length}
use Rattle.std.specs.Prelude.{slice_index, nat_le, SomeIff, Result, Ok, Err, refl}
use Rattle.std.specs.Char.{digit_value}
use Rattle.std.specs.List.{list_all}
use Rattle.std.specs.Result.{result_ok}
use Rattle.std.specs.Str.{all_scalars}
use lib.Utf8.{scalar}
use Rattle.std.specs.Cmp.{first_so, second_so}
use Rattle.std.specs.Str.Parse.{AllDigits, IsNumeral, digits_value, ParsesUnsigned}
use Rattle.std.proofs.Common.{arith, ◌∙◌}
use Rattle.std.proofs.lemmas.Bool.Decides.{nat_tests}
use Rattle.std.proofs.lemmas.Int.Digits.{digits_value-lt}
use Rattle.std.proofs.Math.Nat.{pow-le-pow_right}
use Rattle.opl_lexer.specs.Escapes.{is_hex, is_code}

-- hexadecimal digits alone, as a test and as a fact
all_hex : (ds : List ℕ) → AllDigits 16 ds → list_all is_hex ds ≡ true
all_hex [] all = refl
all_hex (c ∷ cs) all =
    let here : is_hex c ≡ true = let h = all.0 in grind (arith, nat_tests) in
    rw here (all_hex cs all.1)

hex_all : (ds : List ℕ) → list_all is_hex ds ≡ true → AllDigits 16 ds
hex_all [] e = tt
hex_all (c ∷ cs) e =
    let here : digit_value c < 16 = let h = first_so (is_hex c) (list_all is_hex cs) e in grind (arith, nat_tests) in
    (here, hex_all cs (second_so (is_hex c) (list_all is_hex cs) e))

sixteen_power : (n : ℕ) → n ≤ 6 → 16 ^ n < 2 ^ 32
sixteen_power n h = let least = pow-le-pow_right {n = 16} (omega arith) h in omega arith

le_from_test : (a b : ℕ) → nat_le a b ≡ true → a ≤ b
le_from_test a b e = grind (arith, nat_tests)

-- six digits are below 2 ^ 32
pub short_code : (ds : List ℕ) → AllDigits 16 ds → length ds ≤ 6 → digits_value 16 ds < 2 ^ 32
short_code ds all short =
    let less = digits_value-lt 16 ds all in
    let power = sixteen_power (length ds) short in
    omega arith

-- what reading a number says where no plus stands first
pub code_read : {E : Type 0} (ds : List ℕ) (r : Result ℕ E) → length ds ≤ 6 → (slice_index ds 0 == 43) ≡ false
    → ParsesUnsigned 32 16 ds r → SomeIff (result_ok r) (IsNumeral 16 ds × (length ds ≤ 6)) (digits_value 16 ds)
code_read ds (Ok n) short plus read =
    let here = rw plus at read in
    ((here.0.0, short), here.1)
code_read ds (Err e) short plus read =
    let here = rw plus at read in
    λ p. here (p.0, short_code ds p.0.1 short)

scalar_alone : (v : ℕ) → all_scalars (v ∷ []) ≡ true → scalar v ≡ true
scalar_alone v e = first_so (scalar v) true e

alone_scalar : (v : ℕ) → scalar v ≡ true → all_scalars (v ∷ []) ≡ true
alone_scalar v e = rw e refl

-- a code is digits, few enough, of a scalar value
parts_from_tests : (ds : List ℕ) (digits some few value : Bool) → list_all is_hex ds ≡ digits
    → nat_le 1 (length ds) ≡ some → nat_le (length ds) 6 ≡ few → all_scalars (digits_value 16 ds ∷ []) ≡ value
    → (digits && (some && (few && value))) ≡ true
    → (IsNumeral 16 ds × (length ds ≤ 6)) × (scalar (digits_value 16 ds) ≡ true)
parts_from_tests ds digits some few value d s f v e =
    let more = second_so digits (some && (few && value)) e in
    let rest = second_so some (few && value) more in
    let all = hex_all ds (d ∙ first_so digits (some && (few && value)) e) in
    let least = le_from_test 1 (length ds) (s ∙ first_so some (few && value) more) in
    let most = le_from_test (length ds) 6 (f ∙ first_so few value rest) in
    let one = scalar_alone (digits_value 16 ds) (v ∙ second_so few value rest) in
    (((omega arith, all), most), one)

pub code_parts : (ds : List ℕ) → IsTrue (is_code ds)
    → (IsNumeral 16 ds × (length ds ≤ 6)) × (scalar (digits_value 16 ds) ≡ true)
code_parts ds e =
    parts_from_tests ds (list_all is_hex ds) (nat_le 1 (length ds)) (nat_le (length ds) 6)
    (all_scalars (digits_value 16 ds ∷ [])) refl refl refl refl e

pub code_from_parts : (ds : List ℕ) → IsNumeral 16 ds × (length ds ≤ 6) → scalar (digits_value 16 ds) ≡ true
    → IsTrue (is_code ds)
code_from_parts ds (numeral, short) value =
    let some : nat_le 1 (length ds) ≡ true = let h = numeral.0 in grind (arith, nat_tests) in
    let few : nat_le (length ds) 6 ≡ true = grind (arith, nat_tests) in
    rw (all_hex ds numeral.1, some, few) (alone_scalar (digits_value 16 ds) value)
