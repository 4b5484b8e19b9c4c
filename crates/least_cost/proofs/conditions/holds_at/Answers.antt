use Rattle.least_cost.proofs.conditions.holds_at.Goals as goal

pub returns-then-not-holds_alone-clause-no : goal.returns-then-not-holds_alone-clause-no
returns-then-not-holds_alone-clause-no c f x at h =
    c.holds_alone.ensures.no c.if-not-holds_alone.true x at h.starts

pub returns-clause-yes : goal.returns-clause-yes
returns-clause-yes c t x at = record {
  starts = c.holds_alone.ensures.yes c.if-not-holds_alone.false x at;
  arcs = λ arc has. c.in_ok-holds.ensures.yes t x arc at has;
}

pub returns-clause-no : goal.returns-clause-no
returns-clause-no c f x at h = c.in_ok-holds.ensures.no f x at h.arcs
