-- Lines as they stand in the bytes, and their texts.
use Rattle.std.specs.Prelude.{◌≡◌, ◌==◌, ◌<◌, ◌+◌, ◌-◌, ◌++◌, ℕ, List, [], ◌∷◌, true, false, cond, take, drop, length}
use Rattle.std.specs.Prelude.{Some, None, slice_index, refl}
use Rattle.std.specs.Str.{IsUtf8, is_utf8}
use Rattle.std.proofs.Common.{arith, sym, ◌∙◌, ap, add-one, length-append}
use Rattle.std.proofs.lemmas.Bool.Decides.{nat_tests}
use Rattle.std.proofs.lemmas.Str.{IsUtf8-from_is_utf8, is_utf8-from_IsUtf8}
use Rattle.std.proofs.lemmas.List.{take-append-drop, length-take-le}
use Rattle.std.proofs.Math.Seq.{take-suc, take-append_seam, take-length}
use Rattle.memchr.specs.Find.{IsFirstByte, is_byte}
use Rattle.opl_lexer.specs.Letters.{carriage_return}
use Rattle.opl_lexer.specs.Lines.{without_return}
use Rattle.opl_lexer.proofs.Cuts.{cut_at_first}
use Rattle.session_input.specs.Messages.{line_text}
use Rattle.session_input.specs.Holding.{IsFirstLine, IsWholeLine}

pub first_line_here : (bs : List ℕ) (at : ℕ) → IsFirstByte (is_byte 10) bs (Some at)
    → IsFirstLine bs (take (at + 1) bs)
first_line_here bs at found =
    let inside : at < length bs = found.0.high in
    let here : slice_index bs at ≡ 10 = grind (arith, nat_tests, found.1) in
    let cut = cut_at_first 10 bs at found.0 here in
    let front : take (at + 1) bs ≡ take at bs ++ (10 ∷ []) = rw (add-one, take-suc bs at 0 inside, here) refl in
    record {
      whole = record { line = take at bs; one = cut.first; spelled = front };
      rest = drop (at + 1) bs;
      spelled = sym (take-append-drop (at + 1) bs);
    }

pub text_there : (line : List ℕ) → IsUtf8 (without_return line) → line_text line ≡ Some (without_return line)
text_there line utf8 =
    let is : is_utf8 (without_return line) ≡ true = is_utf8-from_IsUtf8 (without_return line) utf8 in
    ap (λ b. cond b (Some (without_return line)) None) is

pub text_missing : (line : List ℕ) → (IsUtf8 (without_return line) → ⊥) → line_text line ≡ None
text_missing line none =
    elim (is_utf8 (without_return line)) as (λ r. is_utf8 (without_return line) ≡ r → line_text line ≡ None) [
      | true ↦ λ e. absurd (none (IsUtf8-from_is_utf8 (without_return line) e))
      | false ↦ λ e. ap (λ b. cond b (Some (without_return line)) None) e
    ] refl

-- the line without its return is a front of it
pub return_dropped : (line : List ℕ) → take (length (without_return line)) line ≡ without_return line
return_dropped line =
    let last = slice_index line (length line - 1) == carriage_return in
    let shorter = take (length line - 1) line in
    elim last as (λ b. take (length (cond b shorter line)) line ≡ cond b shorter line) [
      | true ↦ ap (λ n. take n line) (length-take-le (length line - 1) line (omega arith))
      | false ↦ take-length line
    ]

-- lines are the same that are so with a newline
pub newline_last : (held bytes : List ℕ) → held ++ (10 ∷ []) ≡ bytes ++ (10 ∷ []) → held ≡ bytes
newline_last held bytes is =
    let size : length held ≡ length bytes = omega
    (arith, ap length is, length-append held (10 ∷ []), length-append bytes (10 ∷ [])) in
    sym (take-append_seam held (10 ∷ [])) ∙ (ap (λ n. take n (held ++ (10 ∷ []))) size
    ∙ (ap (take (length bytes)) is ∙ take-append_seam bytes (10 ∷ [])))

-- a whole line without its newline
pub cut_line : (bytes : List ℕ) (whole : IsWholeLine bytes) → take (length bytes - 1) bytes ≡ whole.line
cut_line bytes whole =
    let size : length bytes - 1 ≡ length whole.line = omega
    (arith, ap length whole.spelled, length-append whole.line (10 ∷ [])) in
    ap (λ n. take n bytes) size ∙ (ap (take (length whole.line)) whole.spelled ∙ take-append_seam whole.line (10 ∷ []))
