use Rattle.std.proofs.Common.{◌≡◌, ◌==◌, ◌<◌, ◌+◌, ◌++◌, ◌∷◌, [], ℕ, List, true, false, Some, take, drop, length}
use Rattle.std.proofs.Common.{slice_index, arith, sym, ◌∙◌, ap, subst, length-drop, get_or-drop}
use Rattle.std.proofs.lemmas.Bool.Decides.{Decides-eqb, nat_tests}
use Rattle.std.proofs.lemmas.List.{take-append-drop, take_more}
use Rattle.std.proofs.lemmas.List.Elements.{All-from_get_or}
use Rattle.memchr.specs.Find.{IsLastByte, Nowhere, Passes, is_byte}
use Rattle.opl_lexer.specs.Parts.{Lacks}
use Rattle.bounded_input.specs.StreamFaults.{IsLastCut}
use Rattle.bounded_input.proofs.stream.cut_last.Goals as goal

not_there : (b : ℕ) → ¬ ((b == 10) ≡ true) → (b == 10) ≡ false
not_there b differs = grind (arith, nat_tests)

-- a byte that stands at none of the last places is lacking there
lacks_behind : (bs : List ℕ) (from : ℕ) → Nowhere (Passes (is_byte 10) bs) from (length bs) → Lacks 10 (drop from bs)
lacks_behind bs from none =
    All-from_get_or (λ b. (b == 10) ≡ false) (drop from bs) 0
    (λ i h.
    let inside : from + i < length bs = omega (arith, length-drop from bs) in
    rw get_or-drop (not_there (slice_index bs (from + i)) (none (from + i) (omega arith) inside)))

cut_at : (bs : List ℕ) (at : ℕ) → IsLastByte (is_byte 10) bs (Some at)
    → IsLastCut bs (take (at + 1) bs) (drop (at + 1) bs)
cut_at bs at last =
    let inside = last.0.high in
    let here : slice_index bs at ≡ 10 = (Decides-eqb (slice_index bs at) 10).0 last.1 in
    record {
      written = sym (take-append-drop (at + 1) bs);
      front = take at bs;
      ends = take_more bs at 0 inside ∙ ap (λ b. take at bs ++ b ∷ []) here;
      last = lacks_behind bs (at + 1) last.0.after;
    }

pub returns-clause-some : goal.returns-clause-some
returns-clause-some c =
    let bs = c.args.bytes.now in
    let at = c.in-Some.at in
    subst (λ (r : List ℕ). IsLastCut bs c.split_at.result.0.now r) (sym c.split_at.ensures.back)
    (subst (λ (l : List ℕ). IsLastCut bs l (drop (at + 1) bs)) (sym c.split_at.ensures.front)
    (cut_at bs at c.in-Some.ensures))
