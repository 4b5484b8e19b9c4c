use Rattle.least_cost.proofs.checking.leads.Goals as goal

pub returns-then-not-runs_between : goal.returns-then-not-runs_between
returns-then-not-runs_between g c =
    (λ t. cc, λ l. absurd (c.runs_between.ensures.no c.if-not-runs_between.true l))

pub returns : goal.returns
returns g c = (
  λ t. c.runs_between.ensures.yes c.if-not-runs_between.false (c.in_ok-legal.ensures.0 t),
  λ l. c.in_ok-legal.ensures.1 l.legal,
)
