use Rattle.std.proofs.Common.{◌≡◌, ◌++◌, ℕ, List, Some, sym, subst}
use Rattle.road_base.specs.declared.event.Event.{Event}
use Rattle.opl_lexer.specs.declared.mode.Mode.{Mode}
use Rattle.opl_lexer.specs.Reading.{ReadAll, input_fault}
use Rattle.bounded_input.specs.declared.input.InputError.{InputError}
use Rattle.bounded_input.specs.declared.input.InputError.TheVariants.{Failed, TooLong, Refused, NoMemory}
use Rattle.bounded_input.specs.declared.stream.OpenStream.{OpenStream}
use Rattle.bounded_input.specs.Input.{IsRefusal}
use Rattle.bounded_input.specs.StreamFaults.{IsFaultBehind}
use Rattle.bounded_input.specs.OpenStreams.{IsOpenAt}
use Rattle.bounded_input.proofs.LinesBehind.{last_events, last_fault}
use Rattle.bounded_input.proofs.StreamEnds.{on_ok, on_err}
use Rattle.bounded_input.proofs.stream.OpenStream.finish.Goals as goal

-- what is said of the last line is said of all that was read
module _ (mode : Mode) (read : List ℕ) (events : List Event) (s : OpenStream) (bytes : List ℕ)
    (same : bytes ≡ s.held.items) (k : IsOpenAt mode read events s) where
  refused : (e : InputError) → IsFaultBehind s.lines s.mode bytes e → IsRefusal mode read e
  refused Failed f = absurd f
  refused TooLong f = absurd f
  refused (Refused fault) f =
      let own = subst (λ (m : Mode). input_fault m bytes ≡ Some f.0) k.keeps.mode_is f.1 in
      let held = subst (λ (l : List ℕ). input_fault mode l ≡ Some f.0) same own in
      subst (λ p. input_fault mode read ≡ Some p) (sym f.2)
      (last_fault mode read s.held.items events s.lines k.keeps.open_lines f.0 held)
  refused NoMemory f = tt

  all_read : (more : List Event) → ReadAll s.mode bytes more → ReadAll mode read (events ++ more)
  all_read more all =
      let own = subst (λ (m : Mode). ReadAll m bytes more) k.keeps.mode_is all in
      last_events mode read s.held.items events s.lines k.keeps.open_lines more
      (subst (λ (l : List ℕ). ReadAll mode l more) same own)

pub returns-clause-ok : goal.returns-clause-ok
returns-clause-ok g c = on_ok c.hand_on.result c.hand_on.ensures.ok (λ (more, all, taken). (
  more,
  λ mode read events k.
      all_read mode read events c.args.self c.as_slice.result.now c.as_slice.ensures.value k more all,
  taken,
))

pub returns-clause-err : goal.returns-clause-err
returns-clause-err g c = on_err c.hand_on.result c.hand_on.ensures.err (λ e f mode read events k.
    refused mode read events c.args.self c.as_slice.result.now c.as_slice.ensures.value k e f)
