-- Nothing changes where the step can't be driven or nothing is known of the node; else one entry does.
use Rattle.std.proofs.Common.{sym, subst, ◌∙◌}
use Rattle.drive_judging.specs.DeadEnds.{Adds}
use Rattle.drive_judging.proofs.NodesLeft.{one_added}
use Rattle.drive_judging.proofs.dead_ends.add_step.Goals as goal

pub returns : goal.returns
returns c =
    let o = c.number_order.ensures in
    let adds = one_added c.args.step c.args.tail c.args.known.now c.insert.new.self c.in-Some.before c.with.result
    o.nodes o.node_ties (sym c.leaving_at.ensures ∙ c.in-Some.is) c.with.ensures c.in_ok-insert.ensures.updates in
    subst (λ b. Adds b c.args.step c.args.tail c.args.known.now c.insert.new.self) (sym c.if-not-opens.false) adds
