use Rattle.std.proofs.Common.{sym, ◌∙◌}
use Rattle.std.proofs.lemmas.Bool.{false≢true}
use Rattle.road_model.specs.declared.lists.TurnArc.{TurnArc}
use Rattle.road_model.specs.Orders.{name_cmp}
use Rattle.graph_file.proofs.Ascents.{named}
use Rattle.graph_file.proofs.parts.lead_on.Goals as goal

pub returns-then-do_ascend : goal.returns-then-do_ascend
returns-then-do_ascend c =
    let ascend = named name_cmp (λ (a : TurnArc). a.piece) c.args.arcs.now c.items-2.result.now c.do_ascend.result
    c.do_ascend.ensures c.items-2.ensures in
    let targets = rw (c.items-then-do_ascend.ensures, c.items.ensures) at c.have_targets.ensures in
    (λ yes. (sym ascend ∙ c.if-do_ascend.true, targets.0 yes), λ both. targets.1 both.1)

pub returns-else-do_ascend : goal.returns-else-do_ascend
returns-else-do_ascend c =
    let ascend = named name_cmp (λ (a : TurnArc). a.piece) c.args.arcs.now c.items-2.result.now c.do_ascend.result
    c.do_ascend.ensures c.items-2.ensures in
    (λ yes. absurd (false≢true (sym c.if-do_ascend.false ∙ yes)), λ both. ascend ∙ both.0)
