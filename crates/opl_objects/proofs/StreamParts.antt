-- The parts of an input that comes in parts.
use Rattle.std.specs.Prelude.{◌≡◌, ◌==◌, ◌<◌, ◌+◌, ◌-◌, ◌++◌, ℕ, List, [], ◌∷◌, Bool, true, false, take, drop, length}
use Rattle.std.specs.Prelude.{refl}
use Rattle.std.specs.List.{onto_first}
use Rattle.std.proofs.Common.{arith, sym, ◌∙◌, ap, append-nil}
use Rattle.std.proofs.lemmas.List.{take-append-drop, length-append, length-drop}
use Rattle.std.proofs.lemmas.List.Splits.{slice_split-cons_yes, slice_split-cons_no, slice_split_at, slice_split_none}
use Rattle.std.proofs.lemmas.List.Splits.{length-slice_split}
use Rattle.std.proofs.Math.Seq.{take-append-add}
use Rattle.opl_lexer.specs.Parts.{parts, Lacks}
use Rattle.opl_lexer.specs.Lines.{whole_lines}

abbrev is_end : ℕ → Bool
is_end b = b == 10

-- there is always a part
pub parts_some : (bs : List ℕ) → 0 < length (parts 10 bs)
parts_some bs = omega (arith, length-slice_split is_end bs)

-- a text that is read on behind the last part
glued : List (List ℕ) → List ℕ → List (List ℕ)
glued [] ys = parts 10 ys
glued (p ∷ []) ys = parts 10 (p ++ ys)
glued (p ∷ q ∷ ps) ys = p ∷ glued (q ∷ ps) ys

glued-cons : (p : List ℕ) (ps : List (List ℕ)) (ys : List ℕ) → 0 < length ps → glued (p ∷ ps) ys ≡ p ∷ glued ps ys
unfolding glued
glued-cons p [] ys some = absurd (omega arith)
glued-cons p (q ∷ ps) ys some = refl

glued-onto_first : (b : ℕ) (ps : List (List ℕ)) (ys : List ℕ) → is_end b ≡ false → 0 < length ps
    → glued (onto_first b ps) ys ≡ onto_first b (glued ps ys)
unfolding glued
glued-onto_first b [] ys apart some = absurd (omega arith)
glued-onto_first b (p ∷ []) ys apart some = slice_split-cons_no is_end b (p ++ ys) apart
glued-onto_first b (p ∷ q ∷ ps) ys apart some = refl

parts-glued : (xs ys : List ℕ) → parts 10 (xs ++ ys) ≡ glued (parts 10 xs) ys
unfolding glued
parts-glued [] ys = refl
parts-glued (b ∷ bs) ys =
    let more = parts-glued bs ys in
    elim (is_end b) as (λ r. is_end b ≡ r → parts 10 (b ∷ (bs ++ ys)) ≡ glued (parts 10 (b ∷ bs)) ys) [
      | true ↦ λ e. slice_split-cons_yes is_end b (bs ++ ys) e
          ∙ (ap (λ ps. [] ∷ ps) more ∙ (sym (glued-cons [] (parts 10 bs) ys (parts_some bs))
          ∙ ap (λ ps. glued ps ys) (sym (slice_split-cons_yes is_end b bs e))))
      | false ↦ λ e. slice_split-cons_no is_end b (bs ++ ys) e
          ∙ (ap (onto_first b) more ∙ (sym (glued-onto_first b (parts 10 bs) ys e (parts_some bs))
          ∙ ap (λ ps. glued ps ys) (sym (slice_split-cons_no is_end b bs e))))
    ] refl

glued-last : (front : List (List ℕ)) (last ys : List ℕ)
    → glued (front ++ (last ∷ [])) ys ≡ front ++ parts 10 (last ++ ys)
unfolding glued
glued-last [] last ys = refl
glued-last (p ∷ front) last ys =
    glued-cons p (front ++ (last ∷ [])) ys (omega (arith, length-append front (last ∷ [])))
    ∙ ap (λ ps. p ∷ ps) (glued-last front last ys)

-- more bytes go on with the last part
pub parts_append : (xs ys last : List ℕ) (front : List (List ℕ)) → parts 10 xs ≡ front ++ (last ∷ [])
    → parts 10 (xs ++ ys) ≡ front ++ parts 10 (last ++ ys)
parts_append xs ys last front e = parts-glued xs ys ∙ (ap (λ ps. glued ps ys) e ∙ glued-last front last ys)

pub parts_alone : (bs : List ℕ) → Lacks 10 bs → parts 10 bs ≡ bs ∷ []
parts_alone bs lacks = slice_split_none is_end bs lacks

pub parts_ended : (line : List ℕ) → Lacks 10 line → parts 10 (line ++ (10 ∷ [])) ≡ line ∷ [] ∷ []
parts_ended line lacks = slice_split_at is_end line 10 [] lacks refl

-- ---- all but the last part

one_item : (ps : List (List ℕ)) → length ps ≡ 1 → (last : List ℕ) × (ps ≡ last ∷ [])
one_item [] e = absurd (omega arith)
one_item (p ∷ []) e = (p, refl)
one_item (p ∷ q ∷ ps) e = absurd (omega arith)

-- the whole lines of an input, and then its last part
pub last_part : (bs : List ℕ) → (last : List ℕ) × (parts 10 bs ≡ whole_lines bs ++ (last ∷ []))
last_part bs =
    let n = length (parts 10 bs) - 1 in
    let some = parts_some bs in
    let one : length (drop n (parts 10 bs)) ≡ 1 = omega (arith, length-drop n (parts 10 bs)) in
    let last = one_item (drop n (parts 10 bs)) one in
    (last.0, sym (take-append-drop n (parts 10 bs)) ∙ ap (λ ps. whole_lines bs ++ ps) last.1)

but_last-append : (front ps : List (List ℕ)) → 0 < length ps
    → take (length (front ++ ps) - 1) (front ++ ps) ≡ front ++ take (length ps - 1) ps
but_last-append front ps some =
    let size : length (front ++ ps) - 1 ≡ length front + (length ps - 1) = omega (arith, length-append front ps) in
    ap (λ n. take n (front ++ ps)) size ∙ take-append-add front ps (length ps - 1)

pub whole_lines_are : (bs last : List ℕ) (front : List (List ℕ)) → parts 10 bs ≡ front ++ (last ∷ [])
    → whole_lines bs ≡ front
whole_lines_are bs last front e =
    let none : length (last ∷ []) - 1 ≡ 0 = omega arith in
    ap (λ ps. take (length ps - 1) ps) e ∙ (but_last-append front (last ∷ []) (omega arith)
    ∙ (ap (λ n. front ++ take n (last ∷ [])) none ∙ append-nil front))

-- more bytes add whole lines behind the others
pub whole_lines_append : (xs ys last : List ℕ) → parts 10 xs ≡ whole_lines xs ++ (last ∷ [])
    → whole_lines (xs ++ ys) ≡ whole_lines xs ++ whole_lines (last ++ ys)
whole_lines_append xs ys last e =
    ap (λ ps. take (length ps - 1) ps) (parts_append xs ys last (whole_lines xs) e)
    ∙ but_last-append (whole_lines xs) (parts 10 (last ++ ys)) (parts_some (last ++ ys))
