-- The digits in front of a text, read one by one.
use Rattle.std.specs.Prelude.{◌≡◌, ◌≤◌, ◌<◌, ◌+◌, ◌-◌, ◌*◌, ◌^◌, ◌==◌, ◌++◌, ℕ, pos, List, [], ◌∷◌, false, true, IsTrue}
use Rattle.std.specs.Prelude.{Some, take, drop, length, slice_index, refl}
use Rattle.std.specs.Char.{digit_value}
use Rattle.std.specs.Str.Parse.{AllDigits, IsNumeral, digits_value, digits_value_after}
use Rattle.std.proofs.Common.{arith, add-one, sym, ◌∙◌, ap, subst}
use Rattle.std.proofs.Math.Nat.{pow-suc, pow-le-pow_right}
use Rattle.std.proofs.lemmas.List.{length-take-le, take_all, take_more, take-append-drop}
use Rattle.std.proofs.lemmas.Bool.Decides.{Decides-eqb}
use Rattle.opl_lexer.specs.Numbers.{IsFront, is_numeral, is_i64, whole_of, units_in}
use Rattle.opl_lexer.proofs.Decimals.{AllDigits-at}
use Rattle.opl_lexer.proofs.Numerals.{decides_numeral, decides_i64, none_from, numeral_alone, digits_lack_points}
use Rattle.opl_lexer.proofs.Numerals.{units_whole, units_behind}
use Rattle.opl_lexer.proofs.Cuts.{parts_first}
use Rattle.opl_lexer.proofs.DigitSteps.{drop_here}
use Rattle.opl_lexer.specs.Parts.{parts, IsCutAt}

pub front_start : (bytes : List ℕ) → IsFront bytes 0 0
front_start bytes = record { digits = tt; spells = refl; small = omega arith }

after_append : (n : ℕ) (xs ys : List ℕ) → digits_value_after 10 n (xs ++ ys)
    ≡ digits_value_after 10 (digits_value_after 10 n xs) ys
after_append n [] ys = refl
after_append n (x ∷ xs) ys = after_append (n * 10 + digit_value x) xs ys

all_append : (xs ys : List ℕ) → AllDigits 10 xs → AllDigits 10 ys → AllDigits 10 (xs ++ ys)
all_append [] ys all more = more
all_append (x ∷ xs) ys all more = (all.0, all_append xs ys all.1 more)

next_power : (value at digit : ℕ) → value < 10 ^ at → digit < 10 → value * 10 + digit < 10 ^ (at + 1)
next_power value at digit small one = rw (add-one, pow-suc 10 at) (omega arith)

pub front_more : (bytes : List ℕ) (at value : ℕ) → IsFront bytes at value → at < length bytes
    → digit_value (slice_index bytes at) < 10 → IsFront bytes (at + 1) (value * 10 + digit_value (slice_index bytes at))
front_more bytes at value front inside digit =
    let b = slice_index bytes at in
    let more : take (at + 1) bytes ≡ take at bytes ++ (b ∷ []) = take_more bytes at 0 inside in
    record {
      digits = subst (AllDigits 10) (sym more) (all_append (take at bytes) (b ∷ []) front.digits (digit, tt));
      spells = ap (λ n. n * 10 + digit_value b) front.spells
          ∙ sym (ap (digits_value 10) more ∙ after_append 0 (take at bytes) (b ∷ []));
      small = next_power value at (digit_value b) front.small digit;
    }

pub front_small : (bytes : List ℕ) (at value : ℕ) → IsFront bytes at value → at ≤ 18 → value < 1000000000000000000
front_small bytes at value front few =
    let power = pow-le-pow_right {n = 10} (omega arith) {i = at} {j = 18} (omega arith) in
    let small = front.small in
    omega arith

pub front_below : (bytes : List ℕ) (at value : ℕ) → IsFront bytes at value → at < 18 → value < 100000000000000000
front_below bytes at value front few =
    let power = pow-le-pow_right {n = 10} (omega arith) {i = at} {j = 17} (omega arith) in
    let small = front.small in
    omega arith

-- all bytes
pub front_whole : (bytes : List ℕ) (count value : ℕ) → IsFront bytes count value → length bytes ≤ count
    → AllDigits 10 bytes × (value ≡ digits_value 10 bytes)
front_whole bytes count value front past =
    let whole : take count bytes ≡ bytes = take_all count bytes past in
    (rw whole at front.digits, rw whole at front.spells)

-- ---- a number

no_minus : (c : ℕ) → digit_value c < 10 → (c == 45) ≡ false
no_minus c digit = none_from (c == 45) (Decides-eqb c 45)
    (λ same. let bad : digit_value 45 < 10 = subst (λ d. digit_value d < 10) same digit in absurd (omega arith))

whole_digits : (bs : List ℕ) (n : ℕ) → IsNumeral 10 bs → n ≡ digits_value 10 bs → n < 1000000000000000000
    → whole_of bs ≡ Some (pos n)
whole_digits bs n numeral same small =
    let minus : (slice_index bs 0 == 45) ≡ false = no_minus (slice_index bs 0)
    (AllDigits-at bs 0 numeral.1 (omega (arith, numeral.0))) in
    let fits : is_i64 (pos (digits_value 10 bs))
    ≡ true = (decides_i64 (pos (digits_value 10 bs))).1 (record { sfits = omega arith }) in
    rw (minus, (decides_numeral bs).1 numeral, fits) (ap (λ k. Some (pos k)) (sym same))

front_numeral : (bytes : List ℕ) (count value : ℕ) → IsFront bytes count value → 0 < count → count ≤ length bytes
    → IsNumeral 10 (take count bytes)
front_numeral bytes count value front some within = (omega (arith, length-take-le count bytes within), front.digits)

pub front_is_numeral : (bytes : List ℕ) (count value : ℕ) → IsFront bytes count value → 0 < count → count ≤ length bytes
    → IsTrue (is_numeral (take count bytes))
front_is_numeral bytes count value front some within = (decides_numeral (take count bytes)).1
    (front_numeral bytes count value front some within)

pub front_is_whole : (bytes : List ℕ) (count value : ℕ) → IsFront bytes count value → 0 < count → count ≤ length bytes
    → count ≤ 18 → whole_of (take count bytes) ≡ Some (pos value)
front_is_whole bytes count value front some within few =
    whole_digits (take count bytes) value (front_numeral bytes count value front some within) front.spells
    (front_small bytes count value front few)

-- ---- a decimal

front_cut : (bytes : List ℕ) (count value : ℕ) → IsFront bytes count value → count < length bytes
    → slice_index bytes count ≡ 46 → IsCutAt 46 bytes (take count bytes) (drop (count + 1) bytes)
front_cut bytes count value front inside point =
    let rest : drop count bytes ≡ 46 ∷ drop (count + 1) bytes = drop_here bytes count inside
    ∙ ap (λ b. b ∷ drop (count + 1) bytes) point in
    record {
      written = sym (take-append-drop count bytes) ∙ ap (λ l. take count bytes ++ l) rest;
      first = digits_lack_points (take count bytes) front.digits;
    }

pub front_alone : (bytes : List ℕ) (count value : ℕ) → IsFront bytes count value → 0 < count → count ≡ length bytes
    → units_in (parts 46 bytes) ≡ Some (value * 10000000)
front_alone bytes count value front some end =
    let whole : take count bytes ≡ bytes = take_all count bytes (omega arith) in
    let numeral : IsNumeral 10 bytes = (omega arith, rw whole at front.digits) in
    let spells : value ≡ digits_value 10 bytes = rw whole at front.spells in
    rw (numeral_alone bytes numeral) (units_whole bytes value numeral spells)

pub front_behind : (bytes : List ℕ) (count value more : ℕ) → IsFront bytes count value → 0 < count
    → count < length bytes → slice_index bytes count ≡ 46
    → IsNumeral 10 (drop (count + 1) bytes) → more
    ≡ digits_value 10 (take 7 (drop (count + 1) bytes)) * 10 ^ (7 - length (drop (count + 1) bytes))
    → units_in (parts 46 bytes) ≡ Some (value * 10000000 + more)
front_behind bytes count value more front some inside point after rest =
    let cut = parts_first 46 bytes (take count bytes) (drop (count + 1) bytes)
    (front_cut bytes count value front inside point) in
    let numeral = front_numeral bytes count value front some (omega arith) in
    rw cut (units_behind (take count bytes) (drop (count + 1) bytes) value more numeral front.spells after rest)
