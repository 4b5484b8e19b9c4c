-- What the tests on numbers tell.
use Rattle.std.specs.Prelude.{◌≡◌, ◌≤◌, ◌<◌, ◌+◌, ◌-◌, ◌*◌, ◌^◌, ◌==◌, ◌&&◌, ℕ, ℤ, pos, negsuc, List, [], ◌∷◌, length}
use Rattle.std.specs.Prelude.{take, Bool, true, false, cond, not, nat_lt, Option, Some, None, SomeIff, IfSome, refl}
use Rattle.std.specs.Prelude.{FitsSigned, slice_index}
use Rattle.std.specs.Int.{w64}
use Rattle.std.specs.Bool.{Decides}
use Rattle.std.specs.List.{list_all, join_with_byte}
use Rattle.std.specs.Char.{digit_value}
use Rattle.std.specs.Str.Parse.{AllDigits, IsNumeral, digits_value}
use Rattle.std.proofs.Common.{arith, sym, ◌∙◌, ap, subst, true≢false}
use Rattle.std.proofs.lemmas.Bool.Decides.{Decides-eqb, Decides-and, Decides-not, Decides-like, Decides-ltb}
use Rattle.std.proofs.lemmas.List.Elements.{All-from_get_or}
use Rattle.opl_lexer.proofs.Decimals.{AllDigits-at}
use Rattle.std.proofs.lemmas.List.Splits.{length-slice_split, join_with_byte-slice_split}
use Rattle.opl_lexer.specs.Parts.{parts, Lacks}
use Rattle.opl_lexer.specs.Numbers.{is_digit, is_numeral, is_i64, units, units_in}
use Rattle.opl_lexer.proofs.Cuts.{parts_alone}

decides_digits : (bs : List ℕ) → Decides (list_all is_digit bs) (AllDigits 10 bs)
decides_digits [] = (λ _. tt, λ _. refl)
decides_digits (c ∷ cs) = Decides-and (is_digit c) (list_all is_digit cs) (Decides-ltb (digit_value c) 10)
    (decides_digits cs)

pub decides_numeral : (bs : List ℕ) → Decides (is_numeral bs) (IsNumeral 10 bs)
decides_numeral bs = Decides-and (nat_lt 0 (length bs)) (list_all is_digit bs) (Decides-ltb 0 (length bs))
    (decides_digits bs)

anyway : Decides true (0 ≤ 1)
anyway = (λ h. omega arith, λ h. refl)

pub decides_i64 : (z : ℤ) → Decides (is_i64 z) (FitsSigned w64 z)
decides_i64 (pos n) = Decides-like (not (nat_lt 9223372036854775807 n)) (λ h. record { sfits = omega arith })
    (λ f h. let fits = f.sfits in omega arith)
    (Decides-not (nat_lt 9223372036854775807 n) (Decides-ltb 9223372036854775807 n))
decides_i64 (negsuc n) = Decides-like (not (nat_lt 9223372036854775807 n) && true)
    (λ h. record { sfits = let below = h.0 in omega arith })
    (λ f. (λ h. let fits = f.sfits in omega arith, omega arith))
    (Decides-and (not (nat_lt 9223372036854775807 n)) true
    (Decides-not (nat_lt 9223372036854775807 n) (Decides-ltb 9223372036854775807 n)) anyway)

pub none_from : {P : Type 0} (b : Bool) → Decides b P → ¬ P → b ≡ false
none_from true d n = absurd (n (d.0 refl))
none_from false d n = refl

-- an answer that is there exactly where a test passes
pub chosen : {A : Type 0} (o : Option A) (b : Bool) (P : Type 0) (v : A) → Decides b P → SomeIff o P v
    → o ≡ cond b (Some v) None
chosen None true P v d h = absurd (h (d.0 refl))
chosen None false P v d h = refl
chosen (Some x) true P v d h = ap Some h.1
chosen (Some x) false P v d h = absurd (true≢false (sym (d.1 h.0)))

no_point : (c : ℕ) → digit_value c < 10 → (c == 46) ≡ false
no_point c digit = none_from (c == 46) (Decides-eqb c 46)
    (λ same. let bad : digit_value 46 < 10 = subst (λ d. digit_value d < 10) same digit in absurd (omega arith))

pub digits_lack_points : (bs : List ℕ) → AllDigits 10 bs → Lacks 46 bs
digits_lack_points bs all = All-from_get_or (λ b. (b == 46) ≡ false) bs 0
    (λ i h. no_point (slice_index bs i) (AllDigits-at bs i all h))

-- digits are one part
pub numeral_alone : (bs : List ℕ) → IsNumeral 10 bs → parts 46 bs ≡ bs ∷ []
numeral_alone bs n = parts_alone 46 bs (digits_lack_points bs n.1)

-- a first part of a thousand degrees and more
pub units_large : (front : List ℕ) (others : List (List ℕ)) → (IsNumeral 10 front → 1001 ≤ digits_value 10 front)
    → IfSome (units_in (front ∷ others)) (λ n. 10010000000 ≤ n)
units_large front [] large = one (is_numeral front) (decides_numeral front).0 where
  one : (b : Bool) → (b ≡ true → IsNumeral 10 front)
      → IfSome (cond b (Some (units front [])) None) (λ n. 10010000000 ≤ n)
  one true is = let more = large (is refl) in omega arith
  one false is = tt
units_large front (behind ∷ []) large = two (is_numeral front) (is_numeral behind) (decides_numeral front).0 where
  two : (b d : Bool) → (b ≡ true → IsNumeral 10 front)
      → IfSome (cond (b && d) (Some (units front behind)) None) (λ n. 10010000000 ≤ n)
  two true true is = let more = large (is refl) in omega arith
  two true false is = tt
  two false d is = tt
units_large front (behind ∷ more ∷ others) large = tt

some_parts : (bs : List ℕ) → parts 46 bs ≡ [] → ⊥
some_parts bs e = let count = length-slice_split (λ b. b == 46) bs in let none = ap length e in omega arith

one_part : (bs x : List ℕ) → parts 46 bs ≡ x ∷ [] → bs ≡ x
one_part bs x e = sym (join_with_byte-slice_split 46 bs) ∙ ap (join_with_byte 46) e

-- no number stands behind the point
pub units_none : (front behind : List ℕ) → ¬ IsNumeral 10 behind → units_in (front ∷ parts 46 behind) ≡ None
units_none front behind not_digits = by_parts (parts 46 behind) refl where
  alone : (b d : Bool) → d ≡ false → cond (b && d) (Some (units front behind)) None ≡ None
  alone true true e = absurd (true≢false e)
  alone true false e = refl
  alone false d e = refl

  by_parts : (ps : List (List ℕ)) → parts 46 behind ≡ ps → units_in (front ∷ ps) ≡ None
  by_parts [] e = absurd (some_parts behind e)
  by_parts (x ∷ []) e = rw (← one_part behind x e)
      (alone (is_numeral front) (is_numeral behind) (none_from (is_numeral behind) (decides_numeral behind) not_digits))
  by_parts (x ∷ y ∷ more) e = refl

pub units_whole : (front : List ℕ) (n : ℕ) → IsNumeral 10 front → n ≡ digits_value 10 front
    → units_in (front ∷ []) ≡ Some (n * 10000000)
units_whole front n numeral same = rw ((decides_numeral front).1 numeral, same) (ap Some (omega arith))

pub units_behind : (front behind : List ℕ) (n m : ℕ) → IsNumeral 10 front → n ≡ digits_value 10 front
    → IsNumeral 10 behind → m ≡ digits_value 10 (take 7 behind) * 10 ^ (7 - length behind)
    → units_in (front ∷ parts 46 behind) ≡ Some (n * 10000000 + m)
units_behind front behind n m numeral same after rest =
    rw (numeral_alone behind after, (decides_numeral front).1 numeral, (decides_numeral behind).1 after)
    (ap Some (rw (same, rest) (omega arith)))
