-- A text, cut at the first place where a byte stands.
use Rattle.std.specs.Prelude.{◌≡◌, ◌==◌, ◌≤◌, ◌<◌, ◌+◌, ◌++◌, ℕ, List, [], ◌∷◌, Option, Some, None, is_some}
use Rattle.std.specs.Prelude.{option_copied, true, false, take, drop, length, slice_index, refl}
use Rattle.std.proofs.Common.{arith, sym, ◌∙◌, ap, add-one, Bor}
use Rattle.std.proofs.Math.Seq.{drop-cons}
use Rattle.std.proofs.lemmas.List.{take-append-drop, get_or-take, length-take-le}
use Rattle.std.proofs.lemmas.List.Elements.{All-from_get_or}
use Rattle.std.proofs.lemmas.List.Splits.{length-slice_split}
use Rattle.opl_lexer.specs.Parts.{parts, Lacks, IsCutAt}
use Rattle.opl_objects.specs.Cutting.{other_parts}

-- the first bytes aren't the stop
pub record IsBehind (stop : ℕ) (bs : List ℕ) (at : ℕ) : Type 0 where
  pub none : (k : ℕ) → k < at → (slice_index bs k == stop) ≡ false

pub drop_here : (bs : List ℕ) (at : ℕ) → at < length bs → drop at bs ≡ slice_index bs at ∷ drop (at + 1) bs
drop_here bs at h = rw (add-one, drop-cons bs at 0 h) refl

lacks_front : (stop : ℕ) (bs : List ℕ) (at : ℕ) → at ≤ length bs → IsBehind stop bs at → Lacks stop (take at bs)
lacks_front stop bs at inside behind =
    All-from_get_or (λ b. (b == stop) ≡ false) (take at bs) 0
    (λ i h.
    let below : i < at = omega (arith, length-take-le at bs inside) in
    let here = get_or-take at bs i 0 below in
    rw here (behind.none i below))

pub lacks_all : (stop : ℕ) (bs : List ℕ) (at : ℕ) → length bs ≤ at → IsBehind stop bs at → Lacks stop bs
lacks_all stop bs at past behind = All-from_get_or (λ b. (b == stop) ≡ false) bs 0 (λ i h. behind.none i (omega arith))

pub cut_here : (stop : ℕ) (bs : List ℕ) (at : ℕ) → at < length bs → IsBehind stop bs at → slice_index bs at ≡ stop
    → IsCutAt stop bs (take at bs) (drop (at + 1) bs)
cut_here stop bs at inside behind here =
    let rest : drop at bs ≡ stop ∷ drop (at + 1) bs = drop_here bs at inside ∙ ap (λ b. b ∷ drop (at + 1) bs) here in
    record {
      written = sym (take-append-drop at bs) ∙ ap (λ l. take at bs ++ l) rest;
      first = lacks_front stop bs at (omega arith) behind;
    }

-- there is always a first part
by_first : {A : Type 0} (f : List (List ℕ) → A) (v : A) → ((p : List ℕ) (ps : List (List ℕ)) → f (p ∷ ps) ≡ v)
    → (texts : List (List ℕ)) → 0 < length texts → f texts ≡ v
by_first f v each [] some = absurd (omega arith)
by_first f v each (p ∷ ps) some = each p ps

pub some_part : (stop : ℕ) (bs : List ℕ) → 0 < length (parts stop bs)
some_part stop bs = omega (arith, length-slice_split (λ b. b == stop) bs)

pub by_part : {A : Type 0} (f : List (List ℕ) → A) (v : A) → ((p : List ℕ) (ps : List (List ℕ)) → f (p ∷ ps) ≡ v)
    → (stop : ℕ) (bs : List ℕ) → f (parts stop bs) ≡ v
by_part f v each stop bs = by_first f v each (parts stop bs) (some_part stop bs)

-- the same of what stands behind a byte that was found
pub by_other_part : {A : Type 0} (f : List (List ℕ) → A) (v : A) → ((p : List ℕ) (ps : List (List ℕ)) → f (p ∷ ps) ≡ v)
    → (stop : ℕ) (rest : Option (Bor (List ℕ))) → is_some rest ≡ true → f (other_parts stop (option_copied rest)) ≡ v
by_other_part f v each stop None some = cc
by_other_part f v each stop (Some rest) some = by_part f v each stop rest.now

-- a text that is cut twice
pub two_cuts : (stop : ℕ) (text x y : List ℕ) (rest more : Option (Bor (List ℕ))) (behind : Bor (List ℕ))
    → parts stop text ≡ x ∷ other_parts stop (option_copied rest) → rest ≡ Some behind
    → parts stop behind.now ≡ y ∷ other_parts stop (option_copied more)
    → parts stop text ≡ x ∷ y ∷ other_parts stop (option_copied more)
two_cuts stop text x y rest more behind first found second =
    first ∙ (ap (λ r. x ∷ other_parts stop (option_copied r)) found ∙ ap (λ l. x ∷ l) second)
