-- The first fault of lines that go on.
use Rattle.std.specs.Prelude.{◌≡◌, ◌<◌, ◌+◌, ◌++◌, ℕ, List, [], ◌∷◌, Option, Some, None, length, refl}
use Rattle.std.specs.Option.{option_or}
use Rattle.std.proofs.Common.{arith, ◌∙◌, ap}
use Rattle.std.proofs.lemmas.List.{length-append}
use Rattle.opl_lexer.specs.declared.mode.Mode.{Mode}
use Rattle.opl_lexer.specs.Parts.{parts}
use Rattle.opl_lexer.specs.Lines.{ended, lines, whole_lines, without_return}
use Rattle.opl_lexer.specs.Faults.{line_fault}
use Rattle.opl_lexer.specs.Reading.{FaultAt, at_line, first_fault, ended_fault, input_fault}
use Rattle.opl_objects.proofs.StreamParts.{last_part, whole_lines_append}

option_or-assoc : (a b c : Option FaultAt) → option_or a (option_or b c) ≡ option_or (option_or a b) c
option_or-assoc None b c = refl
option_or-assoc (Some x) b c = refl

pub first_fault-append : (mode : Mode) (k : ℕ) (xs ys : List (List ℕ))
    → first_fault mode k (xs ++ ys) ≡ option_or (first_fault mode k xs) (first_fault mode (k + length xs) ys)
unfolding first_fault
first_fault-append mode k [] ys = ap (λ n. first_fault mode n ys) (omega arith)
first_fault-append mode k (x ∷ xs) ys =
    let here = at_line k (line_fault mode (without_return x)) in
    let number : k + 1 + length xs ≡ k + length (x ∷ xs) = omega arith in
    ap (option_or here) (first_fault-append mode (k + 1) xs ys)
    ∙ (option_or-assoc here (first_fault mode (k + 1) xs) (first_fault mode (k + 1 + length xs) ys)
    ∙ ap (λ n. option_or (first_fault mode k (x ∷ xs)) (first_fault mode n ys)) number)

-- what comes later is behind the first fault
pub first_fault-stays : (mode : Mode) (xs ys : List (List ℕ)) (p : FaultAt) → first_fault mode 1 xs ≡ Some p
    → first_fault mode 1 (xs ++ ys) ≡ Some p
first_fault-stays mode xs ys p e = first_fault-append mode 1 xs ys
    ∙ ap (λ f. option_or f (first_fault mode (1 + length xs) ys)) e

-- behind good lines the next line decides
pub first_fault-next : (mode : Mode) (xs : List (List ℕ)) (line : List ℕ) → first_fault mode 1 xs ≡ None
    → first_fault mode 1 (xs ++ (line ∷ [])) ≡ at_line (length xs + 1) (line_fault mode (without_return line))
unfolding first_fault
first_fault-next mode xs line e =
    let here = at_line (1 + length xs) (line_fault mode (without_return line)) in
    let number : 1 + length xs ≡ length xs + 1 = omega arith in
    first_fault-append mode 1 xs (line ∷ [])
    ∙ (ap (λ f. option_or f (option_or here None)) e
    ∙ (or_none here ∙ ap (λ n. at_line n (line_fault mode (without_return line))) number))
  where
    or_none : (a : Option FaultAt) → option_or a None ≡ a
    or_none None = refl
    or_none (Some x) = refl

-- ---- the end of the input

ended-cons : (line : List ℕ) (ps : List (List ℕ)) → 0 < length ps → ended (line ∷ ps) ≡ line ∷ ended ps
unfolding ended
ended-cons line [] some = absurd (omega arith)
ended-cons [] (p ∷ ps) some = refl
ended-cons (b ∷ bs) (p ∷ ps) some = refl

ended-last : (front : List (List ℕ)) (last : List ℕ) → ended (front ++ (last ∷ [])) ≡ front ++ ended (last ∷ [])
ended-last [] last = refl
ended-last (line ∷ front) last =
    ended-cons line (front ++ (last ∷ [])) (omega (arith, length-append front (last ∷ [])))
    ∙ ap (λ ps. line ∷ ps) (ended-last front last)

-- the lines of an input are its whole lines, and its last part where that has a byte
pub lines_last : (bs last : List ℕ) → parts 10 bs ≡ whole_lines bs ++ (last ∷ [])
    → lines bs ≡ whole_lines bs ++ ended (last ∷ [])
lines_last bs last e = ap ended e ∙ ended-last (whole_lines bs) last

pub ended_none : ended ([] ∷ []) ≡ []
unfolding ended
ended_none = refl

pub ended_some : (last : List ℕ) → 0 < length last → ended (last ∷ []) ≡ last ∷ []
unfolding ended
ended_some [] some = absurd (omega arith)
ended_some (b ∷ bs) some = refl

-- ---- faults of an input

pub ended_fault-stays : (mode : Mode) (xs ys : List ℕ) (p : FaultAt) → ended_fault mode xs ≡ Some p
    → ended_fault mode (xs ++ ys) ≡ Some p
ended_fault-stays mode xs ys p e =
    let last = last_part xs in
    ap (first_fault mode 1) (whole_lines_append xs ys last.0 last.1)
    ∙ first_fault-stays mode (whole_lines xs) (whole_lines (last.0 ++ ys)) p e

pub ended_fault-is_first : (mode : Mode) (bs : List ℕ) (p : FaultAt) → ended_fault mode bs ≡ Some p
    → input_fault mode bs ≡ Some p
ended_fault-is_first mode bs p e =
    let last = last_part bs in
    ap (first_fault mode 1) (lines_last bs last.0 last.1)
    ∙ first_fault-stays mode (whole_lines bs) (ended (last.0 ∷ [])) p e
