-- What a line makes of a frame.
use Rattle.std.specs.Prelude.{◌≡◌, ◌++◌, ℕ, List, [], ◌∷◌, Some, None, Contains, refl}
use Rattle.std.proofs.Common.{arith, sym, ◌∙◌, ap, subst, inl, inr, append_assoc, append-nil}
use Rattle.std.proofs.lemmas.List.Elements.{Contains-push_cases}
use Rattle.road_base.specs.Bytes.{joined}
use Rattle.road_base.specs.declared.ids.Sequence.{Sequence}
use Rattle.opl_lexer.specs.Parts.{Lacks, parts}
use Rattle.opl_lexer.specs.Lines.{whole_lines}
use Rattle.opl_objects.proofs.StreamParts.{parts_append, parts_ended, whole_lines_are}
use Rattle.session_input.specs.declared.open_frame.OpenFrame.{OpenFrame}
use Rattle.session_input.specs.declared.received.Received.TheVariants.{Line as LineReceived, Frame as FrameReceived}
use Rattle.session_input.specs.declared.received.Change.{Change}
use Rattle.session_input.specs.declared.line.Line.{Line as LineText}
use Rattle.session_input.specs.Messages.{Line, Frame, AreInner, IsFrameEnd, line_text, begun_frame}
use Rattle.session_input.specs.Texts.{text_of}
use Rattle.session_input.specs.Reading.{IsChange, OfLine, OfFrame}
use Rattle.session_input.specs.Holding.{HasFrame, HasLines, IsReceived}

abbrev spelled_line : List ℕ → List ℕ
spelled_line line = line ++ 10 ∷ []

joined_push : (ls : List (List ℕ)) (line : List ℕ)
    → joined spelled_line (ls ++ (line ∷ [])) ≡ joined spelled_line ls ++ (line ++ (10 ∷ []))
joined_push [] line = append-nil (line ++ (10 ∷ []))
joined_push (l ∷ ls) line =
    ap (λ bs. (l ++ (10 ∷ [])) ++ bs) (joined_push ls line)
    ∙ sym (append_assoc (l ++ (10 ∷ [])) (joined spelled_line ls) (line ++ (10 ∷ [])))

pub inner_none : AreInner []
inner_none = record { ended = refl; inner = λ line k e. absurd (omega (arith, k.1)) }

parts_more : (body line : List ℕ) → parts 10 body ≡ whole_lines body ++ ([] ∷ []) → Lacks 10 line
    → parts 10 (body ++ (line ++ (10 ∷ []))) ≡ (whole_lines body ++ (line ∷ [])) ++ ([] ∷ [])
parts_more body line ended lacks =
    parts_append body (line ++ (10 ∷ [])) [] (whole_lines body) ended
    ∙ (ap (λ ps. whole_lines body ++ ps) (parts_ended line lacks)
    ∙ sym (append_assoc (whole_lines body) (line ∷ []) ([] ∷ [])))

lines_more : (body line : List ℕ) → parts 10 body ≡ whole_lines body ++ ([] ∷ []) → Lacks 10 line
    → whole_lines (body ++ (line ++ (10 ∷ []))) ≡ whole_lines body ++ (line ∷ [])
lines_more body line ended lacks =
    whole_lines_are (body ++ (line ++ (10 ∷ []))) [] (whole_lines body ++ (line ∷ []))
    (parts_more body line ended lacks)

ended_more : (body line : List ℕ) → parts 10 body ≡ whole_lines body ++ ([] ∷ []) → Lacks 10 line
    → parts 10 (body ++ (line ++ (10 ∷ []))) ≡ whole_lines (body ++ (line ++ (10 ∷ []))) ++ ([] ∷ [])
ended_more body line ended lacks =
    parts_more body line ended lacks ∙ ap (λ ls. ls ++ ([] ∷ [])) (sym (lines_more body line ended lacks))

inner_more : (body line : List ℕ) → parts 10 body ≡ whole_lines body ++ ([] ∷ []) → AreInner body → Lacks 10 line
    → (IsFrameEnd line → ⊥) → AreInner (body ++ (line ++ (10 ∷ [])))
inner_more body line ended inner lacks open_line =
    let lines = lines_more body line ended lacks in
    let all : body ++ (line ++ (10 ∷ [])) ≡ joined spelled_line (whole_lines (body ++ (line ++ (10 ∷ [])))) =
    ap (λ bs. bs ++ (line ++ (10 ∷ []))) inner.ended
    ∙ (sym (joined_push (whole_lines body) line) ∙ ap (joined spelled_line) (sym lines)) in
    record {
      ended = all;
      inner = λ l among ends.
          elim (Contains-push_cases (whole_lines body) line l (subst (λ ls. Contains ls l) lines among)) [
            | inl w ↦ inner.inner l w ends
            | inr same ↦ open_line (subst IsFrameEnd (sym same) ends)
          ];
    }

-- a line that begins a frame
pub frame_begun : (line : List ℕ) (frame : OpenFrame) → Lacks 10 line → begun_frame line ≡ Some frame.number.0
    → HasLines [] frame → HasFrame (line ++ (10 ∷ [])) frame
frame_begun line frame lacks begins lines = record {
  body = [];
  begins = record { first = line; one = lacks; begins = begins; inner = inner_none; spelled = refl };
  lines = lines;
  ended = refl;
}

-- a line that ends no frame
pub frame_grown : (front line whole : List ℕ) (old new : OpenFrame) → HasFrame front old → Lacks 10 line
    → (IsFrameEnd line → ⊥) → whole ≡ line ++ (10 ∷ []) → new.number ≡ old.number
    → ((body : List ℕ) → HasLines body old → HasLines (body ++ whole) new) → HasFrame (front ++ whole) new
frame_grown front line whole old new has lacks open_line spelled same fed =
    let begins = has.begins in
    let body = has.body in
    let inner : AreInner (body ++ whole) = rw spelled
    (inner_more body line has.ended begins.inner lacks open_line) in
    let ended : parts 10 (body ++ whole) ≡ whole_lines (body ++ whole) ++ ([] ∷ []) = rw spelled
    (ended_more body line has.ended lacks) in
    record {
      body = body ++ whole;
      begins = record {
        first = begins.first;
        one = begins.one;
        begins = begins.begins ∙ ap (λ (n : Sequence). Some n.0) (sym same);
        inner = inner;
        spelled = ap (λ bs. bs ++ whole) begins.spelled ∙ append_assoc begins.first (10 ∷ body) whole;
      };
      lines = fed body has.lines;
      ended = ended;
    }

-- a line that ends the frame
pub frame_ended : (front line : List ℕ) (frame : OpenFrame) (change : Change) → HasFrame front frame → Lacks 10 line
    → IsFrameEnd line → ((body : List ℕ) → HasLines body frame → IsChange body change)
    → IsReceived (front ++ (line ++ (10 ∷ []))) (FrameReceived frame.number change)
frame_ended front line frame change has lacks ends says = record {
  message = Frame frame.number.0 has.body;
  is = record { front = front; begins = has.begins; last = line; one = lacks; ends = ends; spelled = refl };
  means = OfFrame frame.number has.body change (says has.body has.lines);
}

-- a line that is a message
pub line_received : (bytes : List ℕ) (line : LineText) → Lacks 10 bytes → text_of line ≡ line_text bytes
    → begun_frame bytes ≡ None → IsReceived (bytes ++ (10 ∷ [])) (LineReceived line)
line_received bytes line lacks is none = record {
  message = Line (text_of line);
  is = record { line = bytes; one = lacks; spelled = refl; is = sym is; no_frame = none };
  means = OfLine line;
}
