-- Where a text is cut at a byte.
use Rattle.std.specs.Prelude.{◌≡◌, ◌==◌, ◌≤◌, ◌<◌, ◌+◌, ◌++◌, ℕ, List, [], ◌∷◌, true, false, Option, Some, None, take}
use Rattle.std.specs.Prelude.{drop, length, slice_index, refl}
use Rattle.std.proofs.Common.{arith, sym, ◌∙◌, ap, subst}
use Rattle.std.proofs.lemmas.Bool.Decides.{Decides-eqb, nat_tests}
use Rattle.std.proofs.lemmas.List.{take-append-drop, get_or-take, length-take-le}
use Rattle.std.proofs.lemmas.List.Elements.{All-from_get_or}
use Rattle.std.proofs.lemmas.List.Splits.{slice_split_at, slice_split_none}
use Rattle.memchr.specs.Find.{IsFirstByte, Passes, NoneBefore, Nowhere, is_byte}
use Rattle.opl_lexer.specs.Parts.{parts, Lacks, IsCutAt}
use Rattle.opl_lexer.proofs.DigitSteps.{drop_here}

not_there : (stop b : ℕ) → ¬ ((b == stop) ≡ true) → (b == stop) ≡ false
not_there stop b differs = grind (arith, nat_tests)

-- a byte that stands at none of the first places is lacking there
pub lacks_before : (stop : ℕ) (bs : List ℕ) (at : ℕ) → at ≤ length bs → Nowhere (Passes (is_byte stop) bs) 0 at
    → Lacks stop (take at bs)
lacks_before stop bs at inside none =
    All-from_get_or (λ b. (b == stop) ≡ false) (take at bs) 0
    (λ i h.
    let below : i < at = omega (arith, length-take-le at bs inside) in
    let here = get_or-take at bs i 0 below in
    rw here (not_there stop (slice_index bs i) (none i (omega arith) below)))

-- the first such byte cuts the text
pub cut_at_first : (stop : ℕ) (bs : List ℕ) (at : ℕ) → NoneBefore (Passes (is_byte stop) bs) 0 (length bs) at
    → slice_index bs at ≡ stop → IsCutAt stop bs (take at bs) (drop (at + 1) bs)
cut_at_first stop bs at none here =
    let inside = none.high in
    let rest : drop at bs ≡ stop ∷ drop (at + 1) bs = drop_here bs at inside ∙ ap (λ b. b ∷ drop (at + 1) bs) here in
    record {
      written = sym (take-append-drop at bs) ∙ ap (λ l. take at bs ++ l) rest;
      first = lacks_before stop bs at (omega arith) none.before;
    }

-- the parts of what is cut, and of what has nothing to cut at
pub parts_first : (stop : ℕ) (bs front rest : List ℕ) → IsCutAt stop bs front rest
    → parts stop bs ≡ front ∷ parts stop rest
parts_first stop bs front rest k =
    rw k.written (slice_split_at (λ b. b == stop) front stop rest k.first ((Decides-eqb stop stop).1 refl))

pub parts_alone : (stop : ℕ) (bs : List ℕ) → Lacks stop bs → parts stop bs ≡ bs ∷ []
parts_alone stop bs lacks = slice_split_none (λ b. b == stop) bs lacks

-- the same of what a search for the byte tells
pub found_cut : (stop : ℕ) (bs : List ℕ) (r : Option ℕ) (at : ℕ) → IsFirstByte (is_byte stop) bs r → r ≡ Some at
    → IsCutAt stop bs (take at bs) (drop (at + 1) bs)
found_cut stop bs None at first e = cc
found_cut stop bs (Some k) at first e =
    let same : k ≡ at = cc in
    let passes : slice_index bs k ≡ stop = (Decides-eqb (slice_index bs k) stop).0 first.1 in
    subst (λ n. IsCutAt stop bs (take n bs) (drop (n + 1) bs)) same (cut_at_first stop bs k first.0 passes)

pub found_place : (stop : ℕ) (bs : List ℕ) (r : Option ℕ) (at : ℕ) → IsFirstByte (is_byte stop) bs r → r ≡ Some at
    → (at < length bs) × (slice_index bs at ≡ stop)
found_place stop bs None at first e = cc
found_place stop bs (Some k) at first e =
    let same : k ≡ at = cc in
    let passes : slice_index bs k ≡ stop = (Decides-eqb (slice_index bs k) stop).0 first.1 in
    subst (λ n. (n < length bs) × (slice_index bs n ≡ stop)) same (first.0.high, passes)

-- the same of what a loop over the bytes tells
lacks_front : (stop : ℕ) (bs : List ℕ) (at : ℕ) → at ≤ length bs
    → ((j : ℕ) → j < at → (slice_index bs j == stop) ≡ false) → Lacks stop (take at bs)
lacks_front stop bs at inside each =
    All-from_get_or (λ b. (b == stop) ≡ false) (take at bs) 0
    (λ i h.
    let below : i < at = omega (arith, length-take-le at bs inside) in
    let here = get_or-take at bs i 0 below in
    rw here (each i below))

pub parts_here : (stop : ℕ) (bs : List ℕ) (at : ℕ) → at < length bs
    → ((j : ℕ) → j < at → (slice_index bs j == stop) ≡ false) → slice_index bs at ≡ stop
    → parts stop bs ≡ take at bs ∷ parts stop (drop 1 (drop at bs))
parts_here stop bs at inside each here =
    let rest : drop at bs ≡ stop ∷ drop (at + 1) bs = drop_here bs at inside ∙ ap (λ b. b ∷ drop (at + 1) bs) here in
    let behind : drop 1 (drop at bs) ≡ drop (at + 1) bs = ap (drop 1) rest in
    rw behind (parts_first stop bs (take at bs) (drop (at + 1) bs) (record {
      written = sym (take-append-drop at bs) ∙ ap (λ l. take at bs ++ l) rest;
      first = lacks_front stop bs at (omega arith) each;
    }))

pub parts_nowhere : (stop : ℕ) (bs : List ℕ) → ((j : ℕ) → j < length bs → (slice_index bs j == stop) ≡ false)
    → parts stop bs ≡ bs ∷ []
parts_nowhere stop bs each = parts_alone stop bs (All-from_get_or (λ b. (b == stop) ≡ false) bs 0 each)
