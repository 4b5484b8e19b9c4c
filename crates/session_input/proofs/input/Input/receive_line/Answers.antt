use Rattle.std.proofs.Common.{◌+◌, ◌++◌, length, refl, arith, ap, subst, length-append}
use Rattle.session_input.specs.Holding.{LeadsTo}
use Rattle.session_input.proofs.HoldingSteps.{holds_line, holds_none, receives_line, whole_both}
use Rattle.session_input.proofs.input.Input.receive_line.Goals as goal

pub returns-in-Open-clause-more : goal.returns-in-Open-clause-more
returns-in-Open-clause-more c = λ before bytes holds.
    let old = c.args.self.now in
    let line = c.args.line.now in
    let led = c.in_ok-next.ensures.next holds.front holds.frame
    (whole_both old.held.items line holds.open_line c.requires.whole) in
    let has = subst (LeadsTo (holds.front ++ (old.held.items ++ line))) c.in-Open.is led in
    holds_line before bytes line old _ c.in-Open.frame holds c.requires.whole c.requires.room has refl
    c.in_ok-next.ensures.held (ap (λ n. n + length line) c.in_ok-next.ensures.total)

pub returns-in-Ended-clause-received : goal.returns-in-Ended-clause-received
returns-in-Ended-clause-received c = λ before bytes holds.
    let old = c.args.self.now in
    let line = c.args.line.now in
    let led = c.in_ok-next.ensures.next holds.front holds.frame
    (whole_both old.held.items line holds.open_line c.requires.whole) in
    let is = subst (LeadsTo (holds.front ++ (old.held.items ++ line))) c.in-Ended.is led in (
      receives_line before bytes line old c.in-Ended.received holds c.requires.whole c.requires.room is,
      holds_none (before + length (bytes ++ line)) _ c.in_ok-next.ensures.frame c.in_ok-next.ensures.held
          (omega (arith, c.in_ok-next.ensures.total, holds.total, length-append bytes line)),
    )
