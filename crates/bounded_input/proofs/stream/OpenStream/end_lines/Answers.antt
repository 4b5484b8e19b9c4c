use Rattle.std.proofs.Common.{◌≡◌, ◌+◌, ◌++◌, ◌∷◌, [], ℕ, List, Some, length, sym, ◌∙◌}
use Rattle.std.proofs.Common.{ap, subst}
use Rattle.road_base.specs.declared.event.Event.{Event}
use Rattle.opl_lexer.specs.declared.mode.Mode.{Mode}
use Rattle.opl_lexer.specs.Lines.{whole_lines}
use Rattle.opl_lexer.specs.Reading.{ReadAll, ended_fault, input_fault}
use Rattle.opl_objects.specs.Feeding.{IsOpen}
use Rattle.bounded_input.specs.declared.input.InputError.{InputError}
use Rattle.bounded_input.specs.declared.input.InputError.TheVariants.{Failed, TooLong, Refused, NoMemory}
use Rattle.bounded_input.specs.declared.stream.OpenStream.{OpenStream}
use Rattle.bounded_input.specs.StreamFaults.{IsFaultBehind, EndsIn}
use Rattle.bounded_input.specs.OpenStreams.{KeepsLines}
use Rattle.bounded_input.proofs.LinesBehind.{closed_events, closed_fault}
use Rattle.bounded_input.proofs.StreamEnds.{on_ok, on_err}
use Rattle.bounded_input.proofs.stream.OpenStream.end_lines.Goals as goal

module _ (mode : Mode) (read ended front bytes : List ℕ) (events : List Event) (s : OpenStream)
    (ends : ended ≡ front ++ 10 ∷ []) (same : bytes ≡ s.held.items ++ ended) (k : KeepsLines mode read events s) where
  -- the events of the lines that have ended
  lines_kept : (more : List Event) (n : ℕ) (held : List ℕ) → ReadAll s.mode bytes more → n ≡ length (whole_lines bytes)
      → held ≡ [] → IsOpen mode (read ++ ended) held (events ++ more) (s.lines + n)
  lines_kept more n held all count none =
      let own = subst (λ (m : Mode). ReadAll m bytes more) k.mode_is all in
      let joined = subst (λ (l : List ℕ). ReadAll mode l more) same own in
      let number : s.lines + length (whole_lines (s.held.items ++ ended)) ≡ s.lines + n =
      ap (λ m. s.lines + m) (sym (count ∙ ap (λ (l : List ℕ). length (whole_lines l)) same)) in
      subst (λ (l : List ℕ). IsOpen mode (read ++ ended) l (events ++ more) (s.lines + n)) (sym none)
      (subst (λ (m : ℕ). IsOpen mode (read ++ ended) [] (events ++ more) m) number
      (closed_events mode read s.held.items events s.lines ended front k.open_lines ends more joined))

  -- their first fault
  ends_in : (e : InputError) → IsFaultBehind s.lines s.mode bytes e → EndsIn mode (read ++ ended) e
  ends_in Failed f = absurd f
  ends_in TooLong f = absurd f
  ends_in (Refused fault) f =
      let own = subst (λ (m : Mode). input_fault m bytes ≡ Some f.0) k.mode_is f.1 in
      let joined = subst (λ (l : List ℕ). input_fault mode l ≡ Some f.0) same own in
      subst (λ p. ended_fault mode (read ++ ended) ≡ Some p) (sym f.2)
      (closed_fault mode read s.held.items events s.lines ended front k.open_lines ends f.0 joined)
  ends_in NoMemory f = tt

pub returns-clause-ok : goal.returns-clause-ok
returns-clause-ok g c =
    let bytes = c.as_slice-bytes.result.now in
    let same = c.as_slice-bytes.ensures.value ∙ c.in-Ok.ensures.items in
    on_ok c.hand_on-taken.result c.hand_on-taken.ensures.ok (λ (more, all, taken). (
      more,
      λ mode read events k. record {
        mode_is = k.mode_is;
        open_lines = lines_kept mode read c.args.ended.now c.requires.newline.0 bytes events c.args.self.now
            c.requires.newline.1 same k more c.newlines.result c.clear.new.self.items all c.newlines.ensures.count
            c.clear.ensures.items;
      },
      taken,
    ))

pub returns-clause-err : goal.returns-clause-err
returns-clause-err g c =
    let bytes = c.as_slice-bytes.result.now in
    let same = c.as_slice-bytes.ensures.value ∙ c.in-Ok.ensures.items in
    on_err c.hand_on-taken.result c.hand_on-taken.ensures.err (λ e f mode read events k.
    ends_in mode read c.args.ended.now c.requires.newline.0 bytes events c.args.self.now c.requires.newline.1 same k e
    f)
