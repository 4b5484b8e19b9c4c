use Rattle.std.proofs.Common.{◌≡◌, ℕ, List, Option, Some, None, refl, sym, ap, ◌∙◌}
use Rattle.std.specs.Option.{option_and_then, option_map}
use Rattle.road_base.specs.declared.ids.Sequence.{Sequence}
use Rattle.opl_lexer.specs.Fields.{fields}
use Rattle.session_input.specs.Messages.{frame_of_words, line_text, begun_frame}
use Rattle.session_input.specs.Texts.{text_of}
use Rattle.session_input.proofs.FrameSteps.{line_received, frame_begun}
use Rattle.session_input.proofs.next.take_outside.Goals as goal

-- the number that was found is that of the frame that the bytes begin
begun_is : (bytes : List ℕ) (text : Option (List ℕ)) (found number : Option Sequence) → text ≡ line_text bytes
    → option_map (λ n. n.0) found ≡ option_and_then (λ t. frame_of_words (fields t)) text → found ≡ number
    → begun_frame bytes ≡ option_map (λ n. n.0) number
begun_is bytes text found number is tells same =
    ap (λ (t : Option (List ℕ)). option_and_then (λ l. frame_of_words (fields l)) t) (sym is) ∙ sym tells
    ∙ ap (λ (o : Option Sequence). option_map (λ n. n.0) o) same

pub returns-in-Some : goal.returns-in-Some
returns-in-Some c = record {
  next = λ bytes lacks is. frame_begun bytes c.new.result lacks
      (begun_is bytes (text_of c.args.line) c.number_of.result (Some c.in-Some.number) is c.number_of.ensures
      c.in-Some.is ∙ ap (λ (n : Sequence). Some n.0) (sym c.new.ensures.number)) c.new.ensures.empty;
  size = c.new.ensures.size;
}

pub returns : goal.returns
returns c = record {
  next = λ bytes lacks is. line_received bytes c.args.line lacks is
      (begun_is bytes (text_of c.args.line) c.number_of.result None is c.number_of.ensures c.in-None.is);
  size = refl;
}
