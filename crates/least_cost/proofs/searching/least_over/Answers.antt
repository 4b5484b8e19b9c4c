use Rattle.std.proofs.Common.{Contains, get_or, subst, sym, pos}
use Rattle.std.proofs.lemmas.List.Elements.{Contains-get_or}
use Rattle.road_model.specs.declared.lists.TurnArc.{TurnArc}
use Rattle.road_base.specs.declared.ids.Dir.TheVariants.{Forward}
use Rattle.context_search.specs.Marks.{at_of}
use Rattle.least_cost.specs.CostVisits.{IsMetBy}
use Rattle.least_cost.proofs.LeastMeetings.{met_none, met_more, met_all}
use Rattle.least_cost.proofs.searching.least_over.Goals as goal

abbrev no_arc : TurnArc
no_arc = record { piece = record { way = record { 0 = pos 0 }; index = 0; dir = Forward }; length = 0 }

pub loop-arc-init : goal.loop-arc-init
loop-arc-init c visits at = met_none c.args.goals.now visits c.args.visit.now.cost c.args.best

pub meet-requires : goal.meet-requires
meet-requires c =
    let items = c.items-arc-items.result.now in
    subst (λ l. Contains l (get_or items c.loop-arc.arc-index no_arc)) c.items-arc-items.ensures
    (Contains-get_or items c.loop-arc.arc-index no_arc c.loop-arc-test.true)

pub loop-arc-preserved : goal.loop-arc-preserved
loop-arc-preserved c visits at =
    met_more c.args.goals.now visits c.args.visit.now.cost c.items-arc-items.result.now c.loop-arc.arc-index no_arc
    c.args.best c.loop-arc.least c.in_ok-least.least c.loop-arc-test.true (c.loop-arc.invariant visits at)
    (c.in_ok-least.ensures visits at)

pub returns : goal.returns
returns c visits at =
    let arcs = c.items-arc-items.result.now in
    subst (λ l. IsMetBy c.args.goals.now visits c.args.visit.now.cost l c.args.best c.loop-arc.least)
    c.items-arc-items.ensures
    (met_all c.args.goals.now visits c.args.visit.now.cost arcs c.loop-arc.arc-index c.args.best c.loop-arc.least
    c.loop-arc-test.false (c.loop-arc.invariant visits at))
