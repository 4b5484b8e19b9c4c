-- Bytes within the limits, and the first byte too many.
use Rattle.std.specs.Prelude.{◌≡◌, ◌<◌, ◌≤◌, ◌+◌, ◌^◌, ◌++◌, ◌⊎◌, ℕ, List, [], ◌∷◌, true, false, Option, Some, None}
use Rattle.std.specs.Prelude.{nat_le, length, refl}
use Rattle.std.proofs.Common.{arith, sym, ◌∙◌, ap, subst, inl, inr, append_assoc, append-nil, length-append}
use Rattle.std.proofs.lemmas.Bool.Decides.{nat_tests}
use Rattle.road_base.specs.Bytes.{joined}
use Rattle.opl_lexer.specs.Parts.{Lacks}
use Rattle.opl_lexer.specs.Lines.{whole_lines}
use Rattle.session_input.specs.declared.open_frame.OpenFrame.{OpenFrame}
use Rattle.session_input.specs.Messages.{IsOpen, InLine, InFrame}
use Rattle.session_input.specs.Limits.{PassesLimit, OfLine, OfFrame, OfSession, IsWithin}
use Rattle.session_input.specs.Sizes.{frame_size}
use Rattle.session_input.specs.Holding.{IsFront}
use Rattle.opl_objects.proofs.StreamSteps.{none_lacks}
use Rattle.session_input.proofs.FrameSteps.{inner_none}
use Rattle.session_input.proofs.LineBytes.{lacks_both, lacks_front, lacks_back, lacks_not, head_same}
use Rattle.session_input.proofs.LineBytes.{tail_same}
use Rattle.session_input.proofs.LineBytes.{two_cuts, first_newline, last_line, nil_of}

-- ---- whole lines

-- The bytes are none, or whole lines, with so many bytes behind the first one.
pub data Whole (front : List ℕ) (size : ℕ) : Type 0 where
  Nothing : front ≡ [] → Whole front size
  Lines : (before first rest : List ℕ) → front ≡ before ++ (10 ∷ []) → Lacks 10 first → front ≡ first ++ (10 ∷ rest)
      → size ≡ length rest → Whole front size

joined_end : (l : List ℕ) (ls : List (List ℕ))
    → (r : List ℕ) × (joined (λ line. line ++ (10 ∷ [])) (l ∷ ls) ≡ r ++ (10 ∷ []))
joined_end l [] = (l, append-nil (l ++ (10 ∷ [])))
joined_end l (k ∷ ls) =
    let more = joined_end k ls in (
      (l ++ (10 ∷ [])) ++ more.0,
      ap (λ bs. (l ++ (10 ∷ [])) ++ bs) more.1
          ∙ sym (append_assoc (l ++ (10 ∷ [])) more.0 (10 ∷ [])),
    )

pub front_whole : (frame : Option OpenFrame) (front : List ℕ) → IsFront frame front → Whole front (frame_size frame)
front_whole None front is = Nothing is
front_whole (Some frame) front is =
    let begins = is.begins in
    let end = joined_end begins.first (whole_lines is.body) in
    let lines : front ≡ joined (λ line. line ++ (10 ∷ [])) (begins.first ∷ whole_lines is.body) =
    begins.spelled ∙ (ap (λ bs. begins.first ++ (10 ∷ bs)) begins.inner.ended
    ∙ sym (append_assoc begins.first (10 ∷ []) (joined (λ line. line ++ (10 ∷ [])) (whole_lines is.body)))) in
    Lines end.0 begins.first is.body (lines ∙ end.1) begins.one begins.spelled is.lines.size

-- one more line
pub whole_more : (front line : List ℕ) (size : ℕ) → Whole front size → Lacks 10 line
    → (more : ℕ) × Whole (front ++ (line ++ (10 ∷ []))) more × (more ≤ size + length line + 1)
whole_more front line size (Nothing none) lacks =
    let same = ap (λ bs. bs ++ (line ++ (10 ∷ []))) none in
    (0, Lines line line [] same lacks same refl, omega arith)
whole_more front line size (Lines before first rest end one cut count) lacks =
    let longer : length (rest ++ (line ++ (10 ∷ []))) ≡ length rest + (length line + 1) =
    omega (arith, length-append rest (line ++ (10 ∷ [])), length-append line (10 ∷ [])) in
    let same = ap (λ bs. bs ++ (line ++ (10 ∷ []))) cut ∙ append_assoc first (10 ∷ rest) (line ++ (10 ∷ [])) in (
      length (rest ++ (line ++ (10 ∷ []))),
      Lines (front ++ line) first (rest ++ (line ++ (10 ∷ [])))
          (sym (append_assoc front line (10 ∷ []))) one same refl,
      omega (arith, longer),
    )

-- ---- within the limits

-- the line isn't longer than it may be
short_line : (front line before behind : List ℕ) (size : ℕ) → Whole front size → front ++ line ≡ before ++ behind
    → Lacks 10 behind → length behind ≤ length line
short_line front line before behind size (Nothing none) e lacks =
    omega (arith, length-append before behind, ap length (sym e ∙ ap (λ bs. bs ++ line) none))
short_line front line before behind size (Lines b first rest end one cut count) e lacks =
    last_line b line before behind (ap (λ bs. bs ++ line) (sym end) ∙ e) lacks

short_frame : (front line first more : List ℕ) (size : ℕ) → Whole front size → Lacks 10 line → Lacks 10 first
    → front ++ line ≡ first ++ (10 ∷ more) → length more ≤ size + length line
short_frame front line first more size (Nothing none) lacks one e =
    let all : line ≡ first ++ (10 ∷ more) = ap (λ bs. bs ++ line) (sym none) ∙ e in
    absurd (lacks_not 10 more refl (lacks_back first (10 ∷ more) (subst (Lacks 10) all lacks)))
short_frame front line first more size (Lines b begun rest end first_lacks cut count) lacks one e =
    let all : begun ++ (10 ∷ (rest ++ line)) ≡ first ++ (10 ∷ more) =
    sym (append_assoc begun (10 ∷ rest) line) ∙ (ap (λ bs. bs ++ line) (sym cut) ∙ e) in
    let same = first_newline begun (rest ++ line) first more first_lacks one all in
    omega (arith, length-append rest line, ap length same.1)

pub not_passed : (before size : ℕ) (front line : List ℕ) → Whole front size → Lacks 10 line → length line ≤ 2 ^ 24
    → size + length line ≤ 2 ^ 30 → before + length (front ++ line) ≤ 2 ^ 40 → PassesLimit before (front ++ line) → ⊥
not_passed before size front line whole lacks in_line in_frame in_session (OfLine f l e one long) =
    let short = short_line front line f l size whole e one in
    omega arith
not_passed before size front line whole lacks in_line in_frame in_session (OfFrame number first more begins e long) =
    let all : front ++ line ≡ begins.first ++ (10 ∷ more) =
    e ∙ (ap (λ bs. bs ++ more) begins.spelled ∙ append_assoc begins.first (10 ∷ []) more) in
    let short = short_frame front line begins.first more size whole lacks begins.one all in
    omega arith
not_passed before size front line whole lacks in_line in_frame in_session (OfSession long) = omega arith

pub within_part : (before size : ℕ) (front held more : List ℕ) → Whole front size → Lacks 10 held → Lacks 10 more
    → IsWithin before (front ++ held) → length held + length more ≤ 2 ^ 24
    → size + length held + length more ≤ 2 ^ 30 → before + length (front ++ held) + length more ≤ 2 ^ 40
    → IsWithin before ((front ++ held) ++ more)
within_part before size front held more whole open_line lacks within in_line in_frame in_session = λ a b e passes.
    elim (two_cuts (front ++ held) more a b e) [
      | inl w ↦ within a w.0 w.1 passes
      | inr w ↦
          let all : a ≡ front ++ (held ++ w.0) = w.1 ∙ append_assoc front held w.0 in
          let fewer : length w.0 ≤ length more = omega (arith, length-append w.0 b, ap length w.2) in
          let line_size : length (held ++ w.0) ≡ length held + length w.0 = length-append held w.0 in
          let size_all : length (front ++ (held ++ w.0)) ≡ length (front ++ held) + length w.0 =
          ap length (sym (append_assoc front held w.0)) ∙ length-append (front ++ held) w.0 in
          let lacks_more = lacks_both held w.0 open_line (lacks_front w.0 b (subst (Lacks 10) w.2 lacks)) in
          not_passed before size front (held ++ w.0) whole lacks_more (omega arith) (omega arith) (omega arith)
          (subst (PassesLimit before) all passes)
    ]

within_byte : (before b : ℕ) (bytes : List ℕ) → IsWithin before bytes → (PassesLimit before (bytes ++ (b ∷ [])) → ⊥)
    → IsWithin before (bytes ++ (b ∷ []))
within_byte before b bytes within fits = λ front rest e passes.
    elim (two_cuts bytes (b ∷ []) front rest e) [
      | inl w ↦ within front w.0 w.1 passes
      | inr w ↦
          elim w.0 as (λ x. x ≡ w.0 → ⊥) [
            | [] ↦ λ z.
                let same : front ≡ bytes = w.1 ∙ (ap (λ bs. bytes ++ bs) (sym z) ∙ append-nil bytes) in
                within front [] (sym (append-nil front ∙ same)) passes
            | y ∷ ys ↦ λ z.
                let all : b ∷ [] ≡ y ∷ (ys ++ rest) = w.2 ∙ ap (λ bs. bs ++ rest) (sym z) in
                let none : ys ≡ [] = nil_of ys
                (omega (arith, length-append ys rest, ap length (tail_same b y [] (ys ++ rest) all))) in
                let here : y ≡ b = sym (head_same b y [] (ys ++ rest) all) in
                let one : y ∷ ys ≡ b ∷ [] = cc (none, here) in
                fits (subst (PassesLimit before) (w.1 ∙ ap (λ bs. bytes ++ bs) (sym z ∙ one)) passes)
          ] refl
    ]

pub within_line : (before size : ℕ) (front held line : List ℕ) → Whole front size → Lacks 10 held → Lacks 10 line
    → IsWithin before (front ++ held) → length held + length line ≤ 2 ^ 24
    → size + length held + length line + 1 ≤ 2 ^ 30 → before + length (front ++ held) + length line + 1 ≤ 2 ^ 40
    → IsWithin before ((front ++ held) ++ (line ++ (10 ∷ [])))
within_line before size front held line whole open_line lacks within in_line in_frame in_session =
    let part = within_part before size front held line whole open_line lacks within in_line (omega arith)
    (omega arith) in
    let bytes = (front ++ held) ++ line in
    let more = whole_more front (held ++ line) size whole (lacks_both held line open_line lacks) in
    let all : bytes ++ (10 ∷ []) ≡ (front ++ ((held ++ line) ++ (10 ∷ []))) ++ [] =
    ap (λ bs. bs ++ (10 ∷ [])) (append_assoc front held line) ∙ (append_assoc front (held ++ line) (10 ∷ [])
    ∙ sym (append-nil (front ++ ((held ++ line) ++ (10 ∷ []))))) in
    let line_size : length (held ++ line) ≡ length held + length line = length-append held line in
    let size_all : length ((front ++ ((held ++ line) ++ (10 ∷ []))) ++ []) ≡ length (front ++ held) + length line + 1 =
    ap length (sym all) ∙ omega (arith, length-append bytes (10 ∷ []), length-append (front ++ held) line) in
    let fits : PassesLimit before (bytes ++ (10 ∷ [])) → ⊥ = λ passes.
    not_passed before more.0 (front ++ ((held ++ line) ++ (10 ∷ []))) [] more.1 none_lacks (omega arith) (omega
    (arith, more.2))
    (omega arith) (subst (PassesLimit before) all passes) in
    subst (IsWithin before) (append_assoc (front ++ held) line (10 ∷ [])) (within_byte before 10 bytes part fits)

pub within_none : (before : ℕ) → before ≤ 2 ^ 40 → IsWithin before []
within_none before few = λ front rest e passes.
    let none : front ≡ [] = nil_of front (omega (arith, length-append front rest, ap length e)) in
    not_passed before 0 [] [] (Nothing refl) none_lacks (omega arith) (omega arith) (omega arith)
    (subst (PassesLimit before) none passes)

-- ---- what is pending

pub open_bytes : (frame : Option OpenFrame) (front held : List ℕ) → IsFront frame front → Lacks 10 held
    → IsOpen (front ++ held)
open_bytes None front held is lacks = InLine (subst (Lacks 10) (ap (λ bs. bs ++ held) (sym is)) lacks)
open_bytes (Some frame) front held is lacks = InFrame frame.number.0 is.body front held is.begins lacks refl

-- ---- the first byte too many

pub record IsInBounds (before size : ℕ) (front held : List ℕ) : Type 0 where
  pub in_line : length held ≤ 2 ^ 24
  pub in_frame : size + length held ≤ 2 ^ 30
  pub in_session : before + length (front ++ held) ≤ 2 ^ 40

pub at_most : (a b : ℕ) → (a ≤ b) ⊎ (b < a)
at_most a b =
    elim (nat_le a b) as (λ r. nat_le a b ≡ r → (a ≤ b) ⊎ (b < a)) [
      | true ↦ λ e. inl (grind (arith, nat_tests))
      | false ↦ λ e. inr (grind (arith, nat_tests))
    ] refl

pub passes_line : (before : ℕ) (front held : List ℕ) → Lacks 10 held → 2 ^ 24 < length held
    → PassesLimit before (front ++ held)
passes_line before front held lacks long = OfLine front held refl lacks long

-- more bytes of the frame than there may be, or of the line where there is none
pub passes_frame : (before : ℕ) (frame : Option OpenFrame) (front held : List ℕ) → IsFront frame front
    → length held ≤ 2 ^ 24 + 1 → 2 ^ 30 < frame_size frame + length held → PassesLimit before (front ++ held)
passes_frame before None front held is short long = absurd (omega arith)
passes_frame before (Some frame) front held is short long =
    let begins = is.begins in
    let first = begins.first in
    let all : front ++ held ≡ (first ++ (10 ∷ [])) ++ (is.body ++ held) =
    ap (λ bs. bs ++ held) begins.spelled ∙ (append_assoc first (10 ∷ is.body) held
    ∙ sym (append_assoc first (10 ∷ []) (is.body ++ held))) in
    OfFrame frame.number.0 (first ++ (10 ∷ [])) (is.body ++ held)
    (record { first = first; one = begins.one; begins = begins.begins; inner = inner_none; spelled = refl }) all
    (omega (arith, length-append is.body held, is.lines.size))
