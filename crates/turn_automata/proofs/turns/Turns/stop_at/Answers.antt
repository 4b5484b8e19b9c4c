use Rattle.std.proofs.Common.{sym, ◌∙◌}
use Rattle.turn_automata.proofs.TurnsOfVisits.{stop_end, stop_none, stop_other}
use Rattle.turn_automata.proofs.turns.Turns.stop_at.Goals as goal

pub returns-then-contains : goal.returns-then-contains
returns-then-contains c = λ W ps p turns st. stop_end W ps c.args.self.now turns c.args.list p st c.args.step
    (sym c.contains.ensures ∙ c.if-contains.true)

pub returns-then-not-contains : goal.returns-then-not-contains
returns-then-not-contains c = λ W ps p turns st. stop_none W ps c.args.self.now turns c.args.list p st c.args.step
    (sym c.contains.ensures ∙ c.if-contains.false) (sym c.contains-2.ensures ∙ c.if-not-contains.true)

pub returns : goal.returns
returns c = λ W ps p turns st. stop_other W ps c.args.self.now turns c.args.list p st c.args.step
    (sym c.contains.ensures ∙ c.if-contains.false) (sym c.contains-2.ensures ∙ c.if-not-contains.false)
    c.contains-3.result c.contains-3.ensures
