-- A line whose fields are ASCII is UTF-8.
use Rattle.std.specs.Prelude.{◌≡◌, ◌<◌, ℕ, List, [], ◌∷◌, true, false, All, length, refl, codes}
use Rattle.std.specs.List.{slice_split, onto_first, filter}
use Rattle.std.specs.Str.{IsUtf8}
use Rattle.std.proofs.Common.{arith, sym, subst}
use Rattle.std.proofs.lemmas.Bool.Decides.{nat_tests}
use Rattle.std.proofs.lemmas.List.Elements.{All-nil, All-cons, All-head, All-tail}
use Rattle.std.proofs.lemmas.List.Splits.{slice_split-cons_yes, slice_split-cons_no, length-slice_split}
use Rattle.std.proofs.lemmas.Str.{IsUtf8-from_ascii}
use Rattle.std.proofs.lemmas.Str.Ascii.{IsAscii-from_all}
use Rattle.opl_lexer.specs.Fields.{is_blank, has_bytes, fields}

abbrev AllLow : List ℕ → Type 0
AllLow bs = All (λ b. b < 128) bs

low_first : (b : ℕ) (ps : List (List ℕ)) → 0 < length ps → All AllLow (onto_first b ps) → (b < 128) × All AllLow ps
low_first b [] some all = absurd (omega arith)
low_first b (p ∷ ps) some all =
    let front = All-head AllLow (b ∷ p) ps all in (
      All-head (λ x. x < 128) b p front,
      All-cons AllLow p ps (All-tail (λ x. x < 128) b p front)
          (All-tail AllLow (b ∷ p) ps all),
    )

low_parts : (bs : List ℕ) → All AllLow (slice_split is_blank bs) → AllLow bs
low_parts [] all = All-nil (λ x. x < 128)
low_parts (b ∷ bs) all =
    elim (is_blank b) as (λ r. is_blank b ≡ r → AllLow (b ∷ bs)) [
      | true ↦ λ e.
          let parts = subst (All AllLow) (slice_split-cons_yes is_blank b bs e) all in
          let low : b < 128 = grind (arith, nat_tests) in
          All-cons (λ x. x < 128) b bs low (low_parts bs (All-tail AllLow [] (slice_split is_blank bs) parts))
      | false ↦ λ e.
          let parts = subst (All AllLow) (slice_split-cons_no is_blank b bs e) all in
          let some : 0 < length (slice_split is_blank bs) = omega (arith, length-slice_split is_blank bs) in
          let first = low_first b (slice_split is_blank bs) some parts in
          All-cons (λ x. x < 128) b bs first.0 (low_parts bs first.1)
    ] refl

low_empty : (p : List ℕ) → has_bytes p ≡ false → AllLow p
low_empty [] none = All-nil (λ x. x < 128)
low_empty (b ∷ bs) none = absurd (grind (arith, nat_tests))

low_kept : (ps : List (List ℕ)) → All AllLow (filter has_bytes ps) → All AllLow ps
low_kept [] all = All-nil AllLow
low_kept (p ∷ ps) all =
    elim (has_bytes p) as (λ r. has_bytes p ≡ r → All AllLow (p ∷ ps)) [
      | true ↦ λ e.
          let kept : All AllLow (p ∷ filter has_bytes ps) = rw e at all in
          All-cons AllLow p ps (All-head AllLow p (filter has_bytes ps) kept)
          (low_kept ps (All-tail AllLow p (filter has_bytes ps) kept))
      | false ↦ λ e.
          let kept : All AllLow (filter has_bytes ps) = rw e at all in
          All-cons AllLow p ps (low_empty p e) (low_kept ps kept)
    ] refl

low_word : AllLow (35 ∷ 101 ∷ 110 ∷ 100 ∷ [])
low_word = All-cons (λ x. x < 128) 35 (101 ∷ 110 ∷ 100 ∷ []) (omega arith)
    (All-cons (λ x. x < 128) 101 (110 ∷ 100 ∷ []) (omega arith)
    (All-cons (λ x. x < 128) 110 (100 ∷ []) (omega arith)
    (All-cons (λ x. x < 128) 100 [] (omega arith) (All-nil (λ x. x < 128)))))

pub end_is_utf8 : (line : List ℕ) → fields line ≡ codes "#end" ∷ [] → IsUtf8 line
end_is_utf8 line e =
    let one : All AllLow (codes "#end" ∷ []) = All-cons AllLow (codes "#end") [] low_word (All-nil AllLow) in
    let all : All AllLow (fields line) = subst (All AllLow) (sym e) one in
    IsUtf8-from_ascii line (IsAscii-from_all line (low_parts line (low_kept (slice_split is_blank line) all)))
