-- What an input holds after more bytes.
use Rattle.std.specs.Prelude.{◌≡◌, ◌==◌, ◌<◌, ◌+◌, ◌-◌, ◌++◌, ℕ, List, [], ◌∷◌, Some, None, length}
use Rattle.std.specs.Prelude.{true, false, take, refl}
use Rattle.std.proofs.Common.{arith, sym, ◌∙◌, ap, subst, append_assoc, append-nil, length-append}
use Rattle.std.proofs.lemmas.Bool.Decides.{nat_tests}
use Rattle.opl_lexer.specs.Parts.{Lacks}
use Rattle.session_input.specs.declared.input.Input.{Input}
use Rattle.session_input.specs.declared.line.Line.{Line}
use Rattle.session_input.specs.declared.next.Behind.{Behind}
use Rattle.session_input.specs.declared.open_frame.OpenFrame.{OpenFrame}
use Rattle.session_input.specs.declared.received.Received.{Received}
use Rattle.session_input.specs.Messages.{line_text}
use Rattle.session_input.specs.Texts.{text_of}
use Rattle.session_input.specs.Limits.{IsWithin, IsStopped}
use Rattle.session_input.specs.Sizes.{frame_size}
use Rattle.session_input.specs.Reading.{Receives}
use Rattle.session_input.specs.Holding.{Holds, HasFrame, HasRoom, IsFront, IsReceived, IsWholeLine, IsFirstLine}
use Rattle.session_input.specs.Holding.{LeadsTo}
use Rattle.opl_objects.proofs.StreamSteps.{none_lacks}
use Rattle.std.proofs.Math.Seq.{take-append-add, take-append_seam}
use Rattle.session_input.proofs.LineBytes.{lacks_both, nil_of}
use Rattle.session_input.proofs.LimitSteps.{IsInBounds, front_whole, within_part, within_line, within_none, open_bytes}
use Rattle.session_input.proofs.StopSteps.{stop_part, stop_line}

in_bounds : (before : ℕ) (bytes : List ℕ) (input : Input) (holds : Holds before bytes input)
    → IsInBounds before (frame_size input.frame) holds.front input.held.items
in_bounds before bytes input holds =
    let size : length bytes ≡ length (holds.front ++ input.held.items) = ap length holds.held in
    record {
      in_line = omega (arith, input.line_fits);
      in_frame = omega (arith, input.frame_fits);
      in_session = omega (arith, input.session_fits, holds.total, size);
    }

within_all : (before : ℕ) (bytes : List ℕ) (input : Input) (holds : Holds before bytes input)
    → IsWithin before (holds.front ++ input.held.items)
within_all before bytes input holds = subst (IsWithin before) holds.held holds.pending.within

-- nothing is held
pub holds_none : (before : ℕ) (input : Input) → input.frame ≡ None → input.held.items ≡ [] → input.total ≡ before
    → Holds before [] input
holds_none before input no_frame no_line total = record {
  pending = record {
    open_bytes = open_bytes None [] [] refl none_lacks;
    within = within_none before (omega (arith, input.session_fits, total));
  };
  front = [];
  frame = subst (λ o. IsFront o []) (sym no_frame) refl;
  open_line = subst (Lacks 10) (sym no_line) none_lacks;
  held = sym no_line;
  total = omega (arith, total);
}

-- more bytes of the line
pub holds_part : (before : ℕ) (bytes part : List ℕ) (old new : Input) → Holds before bytes old → Lacks 10 part
    → HasRoom old (length part) 0 → new.frame ≡ old.frame → new.held.items ≡ old.held.items ++ part
    → new.total ≡ old.total + length part → Holds before (bytes ++ part) new
holds_part before bytes part old new holds lacks room same_frame held total =
    let front = holds.front in
    let line = old.held.items in
    let size : length bytes ≡ length (front ++ line) = ap length holds.held in
    let within : IsWithin before ((front ++ line) ++ part) = within_part before (frame_size old.frame) front line part
    (front_whole old.frame front holds.frame) holds.open_line lacks (within_all before bytes old holds)
    (omega (arith, room.in_line)) (omega (arith, room.in_frame))
    (omega (arith, room.in_session, holds.total, size)) in
    let step : bytes ++ part ≡ front ++ (line ++ part) = ap (λ bs. bs ++ part) holds.held
    ∙ append_assoc front line part in
    let longer = lacks_both line part holds.open_line lacks in
    let opens = open_bytes old.frame front (line ++ part) holds.frame longer in
    record {
      pending = record {
        open_bytes = rw step opens;
        within = rw holds.held within;
      };
      front = front;
      frame = subst (λ o. IsFront o front) (sym same_frame) holds.frame;
      open_line = subst (Lacks 10) (sym held) longer;
      held = step ∙ ap (λ bs. front ++ bs) (sym held);
      total = omega (arith, total, holds.total, length-append bytes part);
    }

line_within : (before : ℕ) (bytes line : List ℕ) (old : Input) → Holds before bytes old → IsWholeLine line
    → HasRoom old (length line - 1) 1 → IsWithin before (bytes ++ line)
line_within before bytes line old holds whole room =
    let front = holds.front in
    let held = old.held.items in
    let size : length bytes ≡ length (front ++ held) = ap length holds.held in
    let shorter : length line ≡ length whole.line + 1 = ap length whole.spelled ∙ length-append whole.line (10 ∷ []) in
    let within = within_line before (frame_size old.frame) front held whole.line
    (front_whole old.frame front holds.frame) holds.open_line whole.one (within_all before bytes old holds)
    (omega (arith, room.in_line)) (omega (arith, room.in_frame))
    (omega (arith, room.in_session, holds.total, size)) in
    subst (IsWithin before) (ap (λ bs. bs ++ (whole.line ++ (10 ∷ []))) (sym holds.held)
    ∙ ap (λ bs. bytes ++ bs) (sym whole.spelled)) within

pub whole_both : (held line : List ℕ) → Lacks 10 held → IsWholeLine line → IsWholeLine (held ++ line)
whole_both held line lacks whole = record {
  line = held ++ whole.line;
  one = lacks_both held whole.line lacks whole.one;
  spelled = ap (λ bs. held ++ bs) whole.spelled ∙ sym (append_assoc held whole.line (10 ∷ []));
}

-- a line of a frame
pub holds_line : (before : ℕ) (bytes line : List ℕ) (old new : Input) (frame : OpenFrame)
    (holds : Holds before bytes old)
    → IsWholeLine line → HasRoom old (length line - 1) 1
    → HasFrame (holds.front ++ (old.held.items ++ line)) frame → new.frame ≡ Some frame → new.held.items ≡ []
    → new.total ≡ old.total + length line → Holds before (bytes ++ line) new
holds_line before bytes line old new frame holds whole room has opened no_line total =
    let front = holds.front ++ (old.held.items ++ line) in
    let step : bytes ++ line ≡ front = ap (λ bs. bs ++ line) holds.held
    ∙ append_assoc holds.front old.held.items line in
    let all : bytes ++ line ≡ front ++ [] = step ∙ sym (append-nil front) in
    let opens = open_bytes (Some frame) front [] has none_lacks in
    record {
      pending = record { open_bytes = rw all opens; within = line_within before bytes line old holds whole room };
      front = front;
      frame = subst (λ o. IsFront o front) (sym opened) has;
      open_line = subst (Lacks 10) (sym no_line) none_lacks;
      held = all ∙ ap (λ bs. front ++ bs) (sym no_line);
      total = omega (arith, total, holds.total, length-append bytes line);
    }

-- a line that ends a message
pub receives_line : (before : ℕ) (bytes line : List ℕ) (old : Input) (received : Received)
    (holds : Holds before bytes old) → IsWholeLine line → HasRoom old (length line - 1) 1
    → IsReceived (holds.front ++ (old.held.items ++ line)) received → Receives before received (bytes ++ line)
receives_line before bytes line old received holds whole room is =
    let step : bytes ++ line ≡ holds.front ++ (old.held.items ++ line) = ap (λ bs. bs ++ line) holds.held
    ∙ append_assoc holds.front old.held.items line in
    let message = is.is in
    record {
      message = is.message;
      taken = record { is = rw step message; within = line_within before bytes line old holds whole room };
      means = is.means;
    }

-- ---- a limit is passed

pub stopped_part : (before : ℕ) (bytes part : List ℕ) (input : Input) → Holds before bytes input → Lacks 10 part
    → (HasRoom input (length part) 0 → ⊥) → IsStopped before (bytes ++ part)
stopped_part before bytes part input holds lacks over =
    let front = holds.front in
    let held = input.held.items in
    let size : length bytes ≡ length (front ++ held) = ap length holds.held in
    let line_size : length (held ++ part) ≡ length held + length part = length-append held part in
    let size_all : length (front ++ (held ++ part)) ≡ length (front ++ held) + length part =
    ap length (sym (append_assoc front held part)) ∙ length-append (front ++ held) part in
    let stopped = stop_part before input.frame front held part [] holds.frame holds.open_line lacks
    (in_bounds before bytes input holds) (within_all before bytes input holds)
    (λ f. over (record {
      in_line = omega (arith, f.in_line);
      in_frame = omega (arith, f.in_frame);
      in_session = omega (arith, f.in_session, holds.total, size);
    })) in
    subst (IsStopped before) (ap (λ bs. (front ++ held) ++ bs) (append-nil part)
    ∙ ap (λ bs. bs ++ part) (sym holds.held)) stopped

pub stopped_line : (before : ℕ) (bytes part line : List ℕ) (input : Input) → Holds before bytes input
    → IsFirstLine part line → (HasRoom input (length line - 1) 1 → ⊥) → IsStopped before (bytes ++ part)
stopped_line before bytes part line input holds cut over =
    let front = holds.front in
    let held = input.held.items in
    let whole = cut.whole in
    let size : length bytes ≡ length (front ++ held) = ap length holds.held in
    let shorter : length line ≡ length whole.line + 1 = ap length whole.spelled ∙ length-append whole.line (10 ∷ []) in
    let stopped = stop_line before input.frame front held whole.line cut.rest holds.frame holds.open_line whole.one
    (in_bounds before bytes input holds) (within_all before bytes input holds)
    (λ in_line in_frame in_session. over (record {
      in_line = omega arith;
      in_frame = omega arith;
      in_session = omega (arith, holds.total, size);
    })) in
    subst (IsStopped before) (ap (λ bs. (front ++ held) ++ (bs ++ cut.rest)) (sym whole.spelled)
    ∙ (ap (λ bs. (front ++ held) ++ bs) (sym cut.spelled) ∙ ap (λ bs. bs ++ part) (sym holds.held))) stopped

-- ---- the end

pub last_leads : (before : ℕ) (bytes whole : List ℕ) (input : Input) (next : Behind) → Holds before bytes input
    → whole ≡ input.held.items ++ (10 ∷ [])
    → ((front : List ℕ) → IsFront input.frame front → IsWholeLine whole → LeadsTo (front ++ whole) next)
    → LeadsTo (bytes ++ (10 ∷ [])) next
last_leads before bytes whole input next holds spelled leads =
    let is : IsWholeLine whole = record { line = input.held.items; one = holds.open_line; spelled = spelled } in
    let all : holds.front ++ whole ≡ bytes ++ (10 ∷ []) = ap (λ bs. holds.front ++ bs) spelled
    ∙ (sym (append_assoc holds.front input.held.items (10 ∷ [])) ∙ ap (λ bs. bs ++ (10 ∷ [])) (sym holds.held)) in
    subst (λ (bs : List ℕ). LeadsTo bs next) all (leads holds.front holds.frame is)

-- a line outside a frame
pub leads_outside : (front all : List ℕ) (next : Behind) (line : Line) → front ≡ [] → IsWholeLine all
    → ((bytes : List ℕ) → all ≡ bytes ++ (10 ∷ []) → text_of line ≡ line_text bytes)
    → ((bytes : List ℕ) → Lacks 10 bytes → text_of line ≡ line_text bytes → LeadsTo (bytes ++ (10 ∷ [])) next)
    → LeadsTo (front ++ all) next
leads_outside front all next line none whole text leads =
    subst (λ (bs : List ℕ). LeadsTo bs next) (sym (ap (λ bs. bs ++ all) none ∙ whole.spelled))
    (leads whole.line whole.one (text whole.line whole.spelled))

-- what stands before the newline
pub cut_last : (held line bytes : List ℕ) → 0 < length line → held ++ line ≡ bytes ++ (10 ∷ [])
    → held ++ take (length line - 1) line ≡ bytes
cut_last held line bytes some is =
    let size : length bytes ≡ length held + (length line - 1) = omega
    (arith, some, ap length is, length-append held line, length-append bytes (10 ∷ [])) in
    sym (take-append-add held line (length line - 1)) ∙ (ap (λ n. take n (held ++ line)) (sym size)
    ∙ (ap (λ bs. take (length bytes) bs) is ∙ take-append_seam bytes (10 ∷ [])))

pub none_held : (items : List ℕ) (n : ℕ) → n ≡ length items → (n == 0) ≡ true → items ≡ []
none_held items n size none = nil_of items (grind (arith, nat_tests, size, none))

pub some_bytes : (before : ℕ) (bytes : List ℕ) (input : Input) → Holds before bytes input
    → 0 < length input.held.items → bytes ≡ [] → ⊥
some_bytes before bytes input holds some none =
    omega (arith, length-append holds.front input.held.items, ap length (sym none ∙ holds.held))

pub some_length : (n : ℕ) → (n == 0) ≡ false → 0 < n
some_length n some = grind (arith, nat_tests)
