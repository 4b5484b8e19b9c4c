-- Where the first byte too many stands.
use Rattle.std.specs.Prelude.{◌≡◌, ◌≤◌, ◌+◌, ◌^◌, ◌++◌, ◌⊎◌, ℕ, List, [], ◌∷◌, Option, length}
use Rattle.std.proofs.Common.{arith, sym, ◌∙◌, ap, subst, inl, inr, append_assoc, append-nil, length-append}
use Rattle.opl_lexer.specs.Parts.{Lacks}
use Rattle.session_input.specs.declared.open_frame.OpenFrame.{OpenFrame}
use Rattle.session_input.specs.Limits.{PassesLimit, OfSession, IsWithin, IsStopped}
use Rattle.session_input.specs.Sizes.{frame_size}
use Rattle.session_input.specs.Holding.{IsFront}
use Rattle.session_input.proofs.LineBytes.{lacks_both, lacks_front, lacks_back}
use Rattle.session_input.proofs.LimitSteps.{IsInBounds, at_most, passes_line, passes_frame, front_whole, within_part}
use Rattle.session_input.proofs.LimitSteps.{not_passed, open_bytes}

bounds_or_pass : (before : ℕ) (frame : Option OpenFrame) (front held : List ℕ) → IsFront frame front → Lacks 10 held
    → IsInBounds before (frame_size frame) front held ⊎ PassesLimit before (front ++ held)
bounds_or_pass before frame front held at_front lacks =
    elim (at_most (length held) (2 ^ 24)) [
      | inr long ↦ inr (passes_line before front held lacks long)
      | inl in_line ↦
          elim (at_most (frame_size frame + length held) (2 ^ 30)) [
            | inr long ↦ inr (passes_frame before frame front held at_front (omega arith) long)
            | inl in_frame ↦
                elim (at_most (before + length (front ++ held)) (2 ^ 40)) [
                  | inr long ↦ inr (OfSession long)
                  | inl in_session ↦
                      inl (record { in_line = in_line; in_frame = in_frame; in_session = in_session })
                ]
          ]
    ]

pub stop_part : (before : ℕ) (frame : Option OpenFrame) (front held more rest : List ℕ) → IsFront frame front
    → Lacks 10 held → Lacks 10 more → IsInBounds before (frame_size frame) front held
    → IsWithin before (front ++ held) → (IsInBounds before (frame_size frame) front (held ++ more) → ⊥)
    → IsStopped before ((front ++ held) ++ (more ++ rest))
stop_part before frame front held [] rest at_front open_line lacks fits within over =
    absurd (over (subst (IsInBounds before (frame_size frame) front) (sym (append-nil held)) fits))
stop_part before frame front held (b ∷ more) rest at_front open_line lacks fits within over =
    let one : Lacks 10 (b ∷ []) = lacks_front (b ∷ []) more lacks in
    let longer : Lacks 10 (held ++ (b ∷ [])) = lacks_both held (b ∷ []) open_line one in
    let join : held ++ (b ∷ more) ≡ (held ++ (b ∷ [])) ++ more = sym (append_assoc held (b ∷ []) more) in
    let step : (front ++ held) ++ (b ∷ []) ≡ front ++ (held ++ (b ∷ [])) = append_assoc front held (b ∷ []) in
    let line_size : length (held ++ (b ∷ [])) ≡ length held + 1 = length-append held (b ∷ []) in
    let size_all : length (front ++ (held ++ (b ∷ []))) ≡ length (front ++ held) + 1 =
    ap length (sym step) ∙ length-append (front ++ held) (b ∷ []) in
    elim (bounds_or_pass before frame front (held ++ (b ∷ [])) at_front longer) [
      | inl more_fits ↦
          let more_within : IsWithin before (front ++ (held ++ (b ∷ []))) = subst (IsWithin before) step
          (within_part before (frame_size frame) front held (b ∷ []) (front_whole frame front at_front) open_line one
          within (omega (arith, more_fits.in_line)) (omega (arith, more_fits.in_frame))
          (omega (arith, more_fits.in_session))) in
          let all : (front ++ (held ++ (b ∷ []))) ++ (more ++ rest) ≡ (front ++ held) ++ (b ∷ (more ++ rest)) =
          ap (λ bs. bs ++ (more ++ rest)) (sym step) ∙ append_assoc (front ++ held) (b ∷ []) (more ++ rest) in
          subst (IsStopped before) all
          (stop_part before frame front (held ++ (b ∷ [])) more rest at_front longer (lacks_back (b ∷ []) more lacks)
          more_fits more_within
          (λ f. over (subst (IsInBounds before (frame_size frame) front) (sym join) f)))
      | inr passes ↦
          record {
            pending = front ++ held;
            byte = b;
            rest = more ++ rest;
            is = sym (append_assoc (front ++ held) (b ∷ []) (more ++ rest));
            open_bytes = record { open_bytes = open_bytes frame front held at_front open_line; within = within };
            passes = subst (PassesLimit before) (sym step) passes;
          }
    ]

-- a newline is one byte too many
passes_newline : (before : ℕ) (frame : Option OpenFrame) (front line : List ℕ) → IsFront frame front
    → length line ≤ 2 ^ 24
    → (frame_size frame + length line + 1 ≤ 2 ^ 30 → before + length (front ++ line) + 1 ≤ 2 ^ 40 → ⊥)
    → PassesLimit before ((front ++ line) ++ (10 ∷ []))
passes_newline before frame front line at_front in_line over =
    let line_size : length (line ++ (10 ∷ [])) ≡ length line + 1 = length-append line (10 ∷ []) in
    let size_all : length ((front ++ line) ++ (10 ∷ [])) ≡ length (front ++ line) + 1 =
    length-append (front ++ line) (10 ∷ []) in
    elim (at_most (frame_size frame + length line + 1) (2 ^ 30)) [
      | inr long ↦
          subst (PassesLimit before) (sym (append_assoc front line (10 ∷ [])))
          (passes_frame before frame front (line ++ (10 ∷ [])) at_front (omega arith) (omega arith))
      | inl in_frame ↦
          elim (at_most (before + length (front ++ line) + 1) (2 ^ 40)) [
            | inr long ↦ OfSession (omega arith)
            | inl in_session ↦ absurd (over in_frame in_session)
          ]
    ]

pub stop_line : (before : ℕ) (frame : Option OpenFrame) (front held line rest : List ℕ) → IsFront frame front
    → Lacks 10 held → Lacks 10 line → IsInBounds before (frame_size frame) front held
    → IsWithin before (front ++ held)
    → (length held + length line ≤ 2 ^ 24 → frame_size frame + length held + length line + 1 ≤ 2 ^ 30
    → before + length (front ++ held) + length line + 1 ≤ 2 ^ 40 → ⊥)
    → IsStopped before ((front ++ held) ++ ((line ++ (10 ∷ [])) ++ rest))
stop_line before frame front held line rest at_front open_line lacks fits within over =
    let whole = front_whole frame front at_front in
    let longer : Lacks 10 (held ++ line) = lacks_both held line open_line lacks in
    let step : (front ++ held) ++ line ≡ front ++ (held ++ line) = append_assoc front held line in
    let line_size : length (held ++ line) ≡ length held + length line = length-append held line in
    let size_all : length (front ++ (held ++ line)) ≡ length (front ++ held) + length line =
    ap length (sym step) ∙ length-append (front ++ held) line in
    elim (bounds_or_pass before frame front (held ++ line) at_front longer) [
      | inr passes ↦
          let all : (front ++ held) ++ (line ++ (10 ∷ rest)) ≡ (front ++ held) ++ ((line ++ (10 ∷ [])) ++ rest) =
          ap (λ bs. (front ++ held) ++ bs) (sym (append_assoc line (10 ∷ []) rest)) in
          subst (IsStopped before) all
          (stop_part before frame front held line (10 ∷ rest) at_front open_line lacks fits within
          (λ f. not_passed before (frame_size frame) front (held ++ line) whole longer f.in_line f.in_frame f.in_session
          passes))
      | inl more_fits ↦
          let part = within_part before (frame_size frame) front held line whole open_line lacks within
          (omega (arith, more_fits.in_line)) (omega (arith, more_fits.in_frame)) (omega
          (arith, more_fits.in_session)) in
          let all : (front ++ held) ++ ((line ++ (10 ∷ [])) ++ rest) ≡ ((front ++ (held ++ line)) ++ (10 ∷ []))
          ++ rest =
          sym (append_assoc (front ++ held) (line ++ (10 ∷ [])) rest)
          ∙ ap (λ bs. bs ++ rest) (sym (append_assoc (front ++ held) line (10 ∷ []))
          ∙ ap (λ bs. bs ++ (10 ∷ [])) step) in
          record {
            pending = front ++ (held ++ line);
            byte = 10;
            rest = rest;
            is = all;
            open_bytes = record {
              open_bytes = open_bytes frame front (held ++ line) at_front longer;
              within = subst (IsWithin before) step part;
            };
            passes = passes_newline before frame front (held ++ line) at_front more_fits.in_line
                (λ in_frame in_session. over (omega (arith, more_fits.in_line)) (omega arith) (omega arith));
          }
    ]
