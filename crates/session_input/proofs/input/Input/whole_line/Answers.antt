use Rattle.std.proofs.Common.{◌++◌, List, ℕ, sym, ◌∙◌, ap, vec_len, arith}
use Rattle.session_input.specs.Messages.{line_text}
use Rattle.session_input.proofs.HoldingSteps.{none_held, cut_last}
use Rattle.session_input.proofs.input.Input.whole_line.Goals as goal

pub returns-then-is_empty-clause-text : goal.returns-then-is_empty-clause-text
returns-then-is_empty-clause-text c = λ bytes is.
    let line = c.args.line.now in
    let items = c.args.self.now.held.items in
    let none = none_held items (vec_len c.args.self.now.held) (omega arith) (sym c.is_empty.ensures
    ∙ c.if-is_empty.true) in
    let here = ap (λ (l : List ℕ). l ++ c.split_at.result.0.now) (sym none)
    ∙ ap (λ (l : List ℕ). items ++ l) c.split_at.ensures.front ∙ cut_last items line bytes c.requires.some is in
    c.lent_line.ensures ∙ ap (λ (l : List ℕ). line_text l) here

pub returns-clause-text : goal.returns-clause-text
returns-clause-text c = λ bytes is.
    let line = c.args.line.now in
    let items = c.args.self.now.held.items in
    let here = c.in_ok-extend_from_slice.ensures.items
    ∙ ap (λ h. h.items ++ c.split_at.result.0.now) c.replace-held.ensures.value
    ∙ ap (λ (l : List ℕ). items ++ l) c.split_at.ensures.front ∙ cut_last items line bytes c.requires.some is in
    c.held_line.ensures ∙ ap (λ (l : List ℕ). line_text l) here
