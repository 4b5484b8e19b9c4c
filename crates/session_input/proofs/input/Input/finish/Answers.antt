use Rattle.std.proofs.Common.{◌++◌, ◌∷◌, [], ◌≡◌, ◌<◌, List, ℕ, length, vec_len, refl, sym, ◌∙◌, ap, subst, arith}
use Rattle.session_input.specs.Messages.{line_text}
use Rattle.session_input.specs.Holding.{IsFront}
use Rattle.session_input.proofs.HoldingSteps.{last_leads, leads_outside, some_bytes, some_length}
use Rattle.session_input.proofs.LineTexts.{newline_last}
use Rattle.session_input.proofs.input.Input.finish.Goals as goal

pub returns-in_default-clause-ended : goal.returns-in_default-clause-ended
returns-in_default-clause-ended c = λ before bytes holds.
    let self = c.args.self in
    let some : 0 < length self.held.items = omega
    (arith, some_length (vec_len self.held) (sym c.is_empty.ensures ∙ c.if-is_empty.false)) in
    let whole = self.held.items ++ (10 ∷ []) in
    c.behind_line.ensures bytes (some_bytes before bytes self holds some)
    (last_leads before bytes whole self c.take_outside.result holds refl
    (λ front is line. leads_outside front whole c.take_outside.result c.held_line.result
    (subst (λ o. IsFront o front) c.in_default.is is) line
    (λ bs same. c.held_line.ensures ∙ ap (λ (l : List ℕ). line_text l) (newline_last self.held.items bs same))
    c.take_outside.ensures.next))

pub returns-clause-ended : goal.returns-clause-ended
returns-clause-ended c = λ before bytes holds.
    let self = c.args.self in
    let some : 0 < length self.held.items = omega
    (arith, some_length (vec_len self.held) (sym c.is_empty.ensures ∙ c.if-is_empty.false)) in
    let spelled : c.as_slice.result.now ≡ self.held.items ++ (10 ∷ []) = c.as_slice.ensures.value
    ∙ c.in_ok-extend_from_slice.ensures.items in
    c.behind_line-2.ensures bytes (some_bytes before bytes self holds some)
    (last_leads before bytes c.as_slice.result.now self c.in_ok-next.next holds spelled
    (λ front is line. c.in_ok-next.ensures.next front (subst (λ o. IsFront o front) c.in-Some.is is) line))
