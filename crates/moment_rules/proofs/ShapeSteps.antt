-- Texts of a fixed shape, character by character.
use Rattle.std.specs.Prelude.{◌≡◌, ◌≤◌, ◌<◌, ◌+◌, ◌*◌, ◌&&◌, ℕ, zero, suc, List, [], ◌∷◌, Bool, true, false}
use Rattle.std.specs.Prelude.{nat_lt, drop, length, slice_index, codes, refl}
use Rattle.std.specs.Char.{digit_value}
use Rattle.std.proofs.Common.{arith, ap, sym, subst, true≢false}
use Rattle.std.proofs.lemmas.Bool.Decides.{Decides-ltb}
use Rattle.std.proofs.lemmas.List.{drop_all}
use Rattle.opl_lexer.proofs.DigitSteps.{drop_here}
use Rattle.moment_rules.specs.Shapes.{has_shape, meets, number_at}

both : (a b : Bool) → (a && b) ≡ true → (a ≡ true) × (b ≡ true)
both true b e = (refl, e)
both false b e = absurd (true≢false (sym e))

pub shape_length : (ss bs : List ℕ) → has_shape ss bs ≡ true → length bs ≡ length ss
shape_length [] [] e = refl
shape_length [] (b ∷ bs) e = absurd (true≢false (sym e))
shape_length (s ∷ ss) [] e = absurd (true≢false (sym e))
shape_length (s ∷ ss) (b ∷ bs) e = ap suc (shape_length ss bs (both (meets s b) (has_shape ss bs) e).1)

-- a text of another length hasn't the shape
pub unlike_length : (ss bs : List ℕ) → ¬ (length bs ≡ length ss) → has_shape ss bs ≡ false
unlike_length ss bs differ = by_answer (has_shape ss bs) refl where
  by_answer : (b : Bool) → has_shape ss bs ≡ b → has_shape ss bs ≡ false
  by_answer true e = absurd (differ (shape_length ss bs e))
  by_answer false e = e

-- the first characters, and then the others
pub shape_here : (ss bs : List ℕ) (at : ℕ) → at < length ss → at < length bs
    → has_shape (drop at ss) (drop at bs)
    ≡ (meets (slice_index ss at) (slice_index bs at) && has_shape (drop (at + 1) ss) (drop (at + 1) bs))
shape_here ss bs at inside same = rw (drop_here ss at inside, drop_here bs at same) refl

pub shape_end : (ss bs : List ℕ) (at : ℕ) → length ss ≤ at → length bs ≤ at
    → has_shape (drop at ss) (drop at bs) ≡ true
shape_end ss bs at past same = rw (drop_all at ss past, drop_all at bs same) refl

digit_met : (s b : ℕ) → meets s b ≡ true → s ≡ 48 → digit_value b < 10
digit_met s b met is =
    let digit : nat_lt (digit_value b) 10 ≡ true = subst (λ (k : ℕ). meets k b ≡ true) is met in
    (Decides-ltb (digit_value b) 10).0 digit

-- where the shape has a 0 the text has a digit
pub shape_digit : (ss bs : List ℕ) → has_shape ss bs ≡ true → (k : ℕ) → k < length ss → slice_index ss k ≡ 48
    → digit_value (slice_index bs k) < 10
shape_digit [] bs e k inside is = absurd (omega arith)
shape_digit (s ∷ ss) [] e k inside is = absurd (true≢false (sym e))
shape_digit (s ∷ ss) (b ∷ bs) e zero inside is = digit_met s b (both (meets s b) (has_shape ss bs) e).0 is
shape_digit (s ∷ ss) (b ∷ bs) e (suc k) inside is =
    shape_digit ss bs (both (meets s b) (has_shape ss bs) e).1 k (omega arith) is

-- four digits are two and two more
pub four_are : (bs : List ℕ) (at : ℕ) → at + 3 < length bs
    → number_at at 4 bs ≡ number_at at 2 bs * 100 + number_at (at + 2) 2 bs
four_are bs at inside =
    let a = drop_here bs at (omega arith) in
    let b = drop_here bs (at + 1) (omega arith) in
    let c = drop_here bs (at + 1 + 1) (omega arith) in
    let d = drop_here bs (at + 1 + 1 + 1) (omega arith) in
    let two : at + 2 ≡ at + 1 + 1 = omega arith in
    rw (two, a, b, c, d) (omega arith)

-- the year's digits stand in front
pub year_zeros : (k : ℕ) → k < 4 → slice_index (codes "0000-00-00T00:00") k ≡ 48
year_zeros zero few = refl
year_zeros (suc zero) few = refl
year_zeros (suc (suc zero)) few = refl
year_zeros (suc (suc (suc zero))) few = refl
year_zeros (suc (suc (suc (suc k)))) few = absurd (omega arith)
