use Rattle.std.proofs.lemmas.Result.{err_from_is_err_and}
use Rattle.session_input.proofs.HoldingSteps.{stopped_part, stopped_line}
use Rattle.session_input.proofs.input.Input.take.Goals as goal

pub returns-in_err-check-clause-stopped : goal.returns-in_err-check-clause-stopped
returns-in_err-check-clause-stopped c =
    let p = err_from_is_err_and c.from_residual.result c.from_residual.ensures.1 in
    let over = c.in_err-check.ensures.err in
    rw (p.1, p.2, over.0) (λ before bytes holds. stopped_part before bytes c.args.part.now c.args.self.now holds
    c.in_default.ensures.none over.1)

pub returns-in_err-check-2-clause-stopped : goal.returns-in_err-check-2-clause-stopped
returns-in_err-check-2-clause-stopped c =
    let p = err_from_is_err_and c.from_residual-in_err-check-2.result c.from_residual-in_err-check-2.ensures.1 in
    let over = c.in_err-check-2.ensures.err in
    rw (p.1, p.2, over.0) (λ before bytes holds. stopped_line before bytes c.args.part.now c.in-Some.line.now
    c.args.self.now holds c.in-Some.ensures.some over.1)
