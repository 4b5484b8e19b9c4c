-- Fields, taken off a line one by one.
use Rattle.std.specs.Prelude.{◌≡◌, ◌<◌, ◌≤◌, ◌+◌, ◌++◌, ℕ, zero, suc, List, [], ◌∷◌, true, false, All, take, drop}
use Rattle.std.specs.Prelude.{length, slice_index, refl}
use Rattle.std.specs.List.{slice_split, filter}
use Rattle.std.specs.Str.{IsUtf8, IsCharBoundary}
use Rattle.std.specs.Prelude.{◌-◌}
use Rattle.std.proofs.Common.{arith, sym, ◌∙◌, ap, subst, inl, inr, add-one}
use Rattle.std.proofs.lemmas.Bool.{false≢true, cases_lt}
use Rattle.std.proofs.lemmas.Bool.Decides.{nat_tests}
use Rattle.std.proofs.lemmas.List.{take-append-drop, get_or-drop, get_or-take, length-take-le, take_all}
use Rattle.std.proofs.lemmas.List.Elements.{All-from_get_or}
use Rattle.std.proofs.lemmas.List.Splits.{slice_split_at, slice_split_none, slice_split-cons_yes}
use Rattle.std.proofs.lemmas.Str.{IsCharBoundary-start, IsCharBoundary-end, IsCharBoundary-after_ascii}
use Rattle.std.proofs.lemmas.Str.{IsCharBoundary-before_ascii}
use Rattle.std.proofs.Math.Nat.{eq-or-lt_of_le}
use Rattle.std.proofs.Math.ListN.{drop_of_length-le}
use Rattle.opl_lexer.specs.Fields.{is_blank, has_bytes, fields}
use Rattle.opl_lexer.proofs.DigitSteps.{drop_here}

-- a blank in front belongs to no field
fields_behind_blank : (b : ℕ) (bs : List ℕ) → is_blank b ≡ true → fields (b ∷ bs) ≡ fields bs
fields_behind_blank b bs blank = ap (filter has_bytes) (slice_split-cons_yes is_blank b bs blank)

pub fields_behind_blanks : (text : List ℕ) (n : ℕ) → n ≤ length text
    → ((k : ℕ) → k < n → is_blank (slice_index text k) ≡ true) → fields (drop n text) ≡ fields text
fields_behind_blanks text zero inside blank = refl
fields_behind_blanks [] (suc n) inside blank = absurd (omega arith)
fields_behind_blanks (b ∷ bs) (suc n) inside blank =
    fields_behind_blanks bs n (omega arith) (λ k h. blank (suc k) (omega arith))
    ∙ sym (fields_behind_blank b bs (blank 0 (omega arith)))

-- a run that has a byte is kept
kept : (run : List ℕ) (others : List (List ℕ)) → 0 < length run
    → filter has_bytes (run ∷ others) ≡ run ∷ filter has_bytes others
kept run others some =
    let has : has_bytes run ≡ true = grind (arith, nat_tests) in
    rw has refl

solid_run : (text : List ℕ) (n : ℕ) → n ≤ length text → ((k : ℕ) → k < n → is_blank (slice_index text k) ≡ false)
    → All (λ b. is_blank b ≡ false) (take n text)
solid_run text n inside solid =
    All-from_get_or (λ b. is_blank b ≡ false) (take n text) 0
    (λ i h.
    let below : i < n = omega (arith, length-take-le n text inside) in
    let here = get_or-take n text i 0 below in
    rw here (solid i below))

field_at_end : (text : List ℕ) (n : ℕ) → 0 < n → n ≡ length text
    → ((k : ℕ) → k < n → is_blank (slice_index text k) ≡ false) → fields text ≡ take n text ∷ fields (drop n text)
field_at_end text n some end solid =
    let whole : take n text ≡ text = take_all n text (omega arith) in
    let none : drop n text ≡ [] = drop_of_length-le text (omega arith) in
    let all : All (λ b. is_blank b ≡ false) text = rw whole at (solid_run text n (omega arith) solid) in
    let one = ap (filter has_bytes) (slice_split_none is_blank text all) ∙ kept text [] (omega arith) in
    rw (whole, none) one

field_before_blank : (text : List ℕ) (n : ℕ) → 0 < n → n < length text
    → ((k : ℕ) → k < n → is_blank (slice_index text k) ≡ false) → is_blank (slice_index text n) ≡ true
    → fields text ≡ take n text ∷ fields (drop n text)
field_before_blank text n some inside solid blank =
    let b = slice_index text n in
    let behind = drop (n + 1) text in
    let rest : drop n text ≡ b ∷ behind = drop_here text n inside in
    let written : text ≡ take n text ++ (b ∷ behind) = sym (take-append-drop n text)
    ∙ ap (λ l. take n text ++ l) rest in
    let split : slice_split is_blank (take n text ++ (b ∷ behind)) ≡ take n text ∷ slice_split is_blank behind =
    slice_split_at is_blank (take n text) b behind (solid_run text n (omega arith) solid) blank in
    let len = length-take-le n text (omega arith) in
    let first : fields (take n text ++ (b ∷ behind)) ≡ take n text ∷ fields behind =
    ap (filter has_bytes) split ∙ kept (take n text) (slice_split is_blank behind) (omega arith) in
    let others : fields (drop n text) ≡ fields behind = ap fields rest ∙ fields_behind_blank b behind blank in
    ap fields written ∙ (first ∙ ap (λ l. take n text ∷ l) (sym others))

-- a run from the first byte to a blank or the end is the first field
pub first_field : (text : List ℕ) (n : ℕ) → 0 < n → n ≤ length text
    → ((k : ℕ) → k < n → is_blank (slice_index text k) ≡ false)
    → (n < length text → is_blank (slice_index text n) ≡ true) → fields text ≡ take n text ∷ fields (drop n text)
first_field text n some inside solid stops =
    elim (eq-or-lt_of_le inside) [
      | inl end ↦ field_at_end text n some end solid
      | inr less ↦ field_before_blank text n some less solid (stops less)
    ]

-- bytes without a blank, and then more of them
pub solid_more : (text : List ℕ) (at n : ℕ) → ((k : ℕ) → k < at → is_blank (slice_index text k) ≡ false)
    → ((k : ℕ) → k < n → is_blank (slice_index (drop at text) k) ≡ false) → (k : ℕ) → k < at + n
    → is_blank (slice_index text k) ≡ false
solid_more text at n before more k h =
    elim (cases_lt k at) [
      | inl below ↦ before k below
      | inr past ↦
          let place : at + (k - at) ≡ k = omega arith in
          let here = more (k - at) (omega arith) in
          subst (λ j. is_blank (slice_index text j) ≡ false) place (rw get_or-drop at here)
    ]

-- ---- where a line may be cut

blank_ascii : (b : ℕ) → is_blank b ≡ true → b < 128
blank_ascii b blank = grind (arith, nat_tests)

pub boundary_behind_blanks : (text : List ℕ) (n : ℕ) → IsUtf8 text → n ≤ length text
    → ((k : ℕ) → k < n → is_blank (slice_index text k) ≡ true) → IsCharBoundary text n
boundary_behind_blanks text zero utf8 inside blank = IsCharBoundary-start text utf8
boundary_behind_blanks text (suc n) utf8 inside blank =
    let cut = IsCharBoundary-after_ascii text n utf8 (omega arith)
    (blank_ascii (slice_index text n) (blank n (omega arith))) in
    rw add-one at cut

pub boundary_before_blank : (text : List ℕ) (n : ℕ) → n ≤ length text
    → (n < length text → is_blank (slice_index text n) ≡ true) → IsCharBoundary text n
boundary_before_blank text n inside stops =
    elim (eq-or-lt_of_le inside) [
      | inl end ↦ rw end (IsCharBoundary-end text)
      | inr less ↦ IsCharBoundary-before_ascii text n less (blank_ascii (slice_index text n) (stops less))
    ]

-- a text that begins with no blank has a run
pub some_run : (text : List ℕ) (n : ℕ) → 0 < length text → is_blank (slice_index text 0) ≡ false
    → (n < length text → is_blank (slice_index text n) ≡ true) → 0 < n
some_run text zero some solid stops = absurd (false≢true (sym solid ∙ stops some))
some_run text (suc n) some solid stops = omega arith
