-- Numbers hold nothing but digits, and maybe a minus in front.
use Rattle.std.specs.Prelude.{◌≡◌, ◌==◌, ◌&&◌, nat_lt, ℕ, List, [], ◌∷◌, Bool, true, false, cond, drop, length, Some}
use Rattle.std.specs.Prelude.{None, is_some, refl}
use Rattle.std.specs.Cmp.{first_so, second_so}
use Rattle.std.specs.List.{list_all}
use Rattle.std.specs.Str.Parse.{starts_with_minus}
use Rattle.std.proofs.Common.{arith, ap, subst, sym, ◌∙◌}
use Rattle.std.proofs.lemmas.Bool.{false≢true}
use Rattle.std.proofs.lemmas.Bool.Decides.{Decides-eqb}
use Rattle.std.proofs.lemmas.List.Elements.{All-nil, All-cons}
use Rattle.opl_lexer.specs.Parts.{parts, Lacks}
use Rattle.opl_lexer.specs.Numbers.{magnitude, is_digit, is_numeral, is_i64, whole_value, whole_of}
use Rattle.opl_lexer.specs.Contents.{number_in}
use Rattle.opl_lexer.proofs.Cuts.{parts_alone}

test_of_some : {A : Type 0} (t : Bool) (v : A) → is_some (cond t (Some v) None) ≡ true → t ≡ true
test_of_some true v e = refl
test_of_some false v e = e

-- an x is neither a digit nor a minus, a comma is no digit
no_digit : (stop b : ℕ) (t : Bool) → is_digit stop ≡ false → (b == stop) ≡ t → is_digit b ≡ true → t ≡ false
no_digit stop b true other e digit =
    let same : b ≡ stop = (Decides-eqb b stop).0 e in
    let none : is_digit stop ≡ true = subst (λ n. is_digit n ≡ true) same digit in
    absurd (false≢true (sym other ∙ none))
no_digit stop b false other e digit = refl

no_minus : (b : ℕ) (t : Bool) → (b == 120) ≡ t → b ≡ 45 → t ≡ false
no_minus b true e minus =
    let same : b ≡ 120 = (Decides-eqb b 120).0 e in
    absurd (omega arith)
no_minus b false e minus = refl

pub digits_lack : (stop : ℕ) (ds : List ℕ) → is_digit stop ≡ false → list_all is_digit ds ≡ true → Lacks stop ds
digits_lack stop [] other all = All-nil (λ b. (b == stop) ≡ false)
digits_lack stop (d ∷ ds) other all =
    All-cons (λ b. (b == stop) ≡ false) d ds
    (no_digit stop d (d == stop) other refl (first_so (is_digit d) (list_all is_digit ds) all))
    (digits_lack stop ds other (second_so (is_digit d) (list_all is_digit ds) all))

magnitude_lacks : (bs : List ℕ) (minus : Bool) → starts_with_minus bs ≡ minus
    → list_all is_digit (cond minus (drop 1 bs) bs) ≡ true → Lacks 120 bs
magnitude_lacks bs false e all = digits_lack 120 bs refl all
magnitude_lacks [] true e all = All-nil (λ b. (b == 120) ≡ false)
magnitude_lacks (b ∷ bs) true e all =
    All-cons (λ c. (c == 120) ≡ false) b bs (no_minus b (b == 120) refl ((Decides-eqb b 45).0 e))
    (digits_lack 120 bs refl all)

whole_lacks : (bs : List ℕ) → is_some (whole_of bs) ≡ true → Lacks 120 bs
whole_lacks bs e =
    let both = test_of_some (is_numeral (magnitude bs) && is_i64 (whole_value bs)) (whole_value bs) e in
    let numeral = first_so (is_numeral (magnitude bs)) (is_i64 (whole_value bs)) both in
    let digits = second_so (nat_lt 0 (length (magnitude bs))) (list_all is_digit (magnitude bs)) numeral in
    magnitude_lacks bs (starts_with_minus bs) refl digits

-- a number without a place
pub number_alone : (bs : List ℕ) → is_some (whole_of bs) ≡ true → number_in (parts 120 bs) ≡ whole_of bs
number_alone bs e = ap number_in (parts_alone 120 bs (whole_lacks bs e))
