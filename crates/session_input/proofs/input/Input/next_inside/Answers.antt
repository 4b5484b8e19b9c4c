use Rattle.std.proofs.Common.{◌≡◌, ◌++◌, List, ℕ, sym, ◌∙◌, ap, subst, vec_len, arith}
use Rattle.std.proofs.lemmas.Result.{IfOk-weaker}
use Rattle.session_input.specs.Holding.{IsWholeLine, LeadsTo}
use Rattle.session_input.proofs.HoldingSteps.{none_held}
use Rattle.session_input.proofs.input.Input.next_inside.Goals as goal

pub returns-then-is_empty-clause-next : goal.returns-then-is_empty-clause-next
returns-then-is_empty-clause-next c = IfOk-weaker c.take_inside.result _ _
    (λ next says front has whole.
    let line = c.args.line.now in
    let items = c.args.self.now.held.items in
    let none = none_held items (vec_len c.args.self.now.held) (omega arith) (sym c.is_empty.ensures
    ∙ c.if-is_empty.true) in
    let same : line ≡ items ++ line = ap (λ (l : List ℕ). l ++ line) (sym none) in
    subst (λ (l : List ℕ). LeadsTo (front ++ l) next) same
    (says front has (subst (λ (l : List ℕ). IsWholeLine l) (sym same) whole)))
    c.take_inside.ensures.next
