-- No arc leads by the departure where it may not follow at the intersection.
use Rattle.std.proofs.Common.{◌≡◌, List, IsTrue, sym, ◌∙◌}
use Rattle.road_base.specs.declared.ids.NodeId.{NodeId}
use Rattle.road_model.specs.declared.lists.TurnArc.{TurnArc}
use Rattle.road_model.specs.Pieces.{Span}
use Rattle.road_model.specs.Blocks.{IsArcEntry}
use Rattle.expanded_graph.specs.Contexts.{IsReached}
use Rattle.expanded_graph.specs.Intersections.{may_follow}
use Rattle.ordered_lists.proofs.ListMembers.{in_from_contains}
use Rattle.expanded_graph.proofs.NextDepartures.{Laws}
use Rattle.expanded_graph.proofs.ContextArcs.{none_passes}
use Rattle.expanded_graph.proofs.Options.{if_some, if_none}
use Rattle.expanded_graph.proofs.arcs.arc_by.Goals as goal

pub returns-then-not-may_follow-clause-none : goal.returns-then-not-may_follow-clause-none
returns-then-not-may_follow-clause-none g c = λ b a reached.
    let M = g.M.World.objects c.args.coming.now.network.now.world.now in
    let P = g.P.Profile.rules c.args.coming.now.network.now.profile in
    let i = c.args.coming.now.intersection in
    let laws : Laws M P =
    record {
      names = c.name_order.ensures.names;
      one = c.one_name.ensures.pieces M;
      depart = c.steps_depart.ensures M;
    } in
    none_passes M P laws (c.context_goes_on.ensures M) c.args.coming.now.states.now.automaton
    c.args.coming.now.states.now.facts.items
    c.args.state.0 i c.requires.coming.intersection c.args.coming.now.from b reached c.args.departure
    (in_from_contains i.departures.now c.args.departure c.requires.departure)
    (sym c.may_follow.ensures ∙ c.if-not-may_follow.true) a

pub returns-clause-arc : goal.returns-clause-arc
returns-clause-arc g c =
    let M = g.M.World.objects c.args.coming.now.network.now.world.now in
    let P = g.P.Profile.rules c.args.coming.now.network.now.profile in
    let m = c.args.coming.now.states.now.automaton in
    let facts = c.args.coming.now.states.now.facts.items in
    let i = c.args.coming.now.intersection in
    let from = c.args.coming.now.from in
    let n = c.args.state.0 in
    let d = c.args.departure in
    if_some c.arc_ahead.result
    (λ (a : TurnArc). (u : NodeId) (x : List Span) → IsTrue (may_follow i u d)
    → IsReached M P m facts n u i.rules.node x → IsArcEntry M P x a)
    (λ (a : TurnArc). (x : List Span) → IsReached M P m facts n from i.rules.node x → IsArcEntry M P x a)
    (λ a h x reached. h from x (sym c.may_follow.ensures ∙ c.if-not-may_follow.false) reached)
    c.arc_ahead.ensures.arc

pub returns-clause-none : goal.returns-clause-none
returns-clause-none g c =
    let M = g.M.World.objects c.args.coming.now.network.now.world.now in
    let P = g.P.Profile.rules c.args.coming.now.network.now.profile in
    let m = c.args.coming.now.states.now.automaton in
    let facts = c.args.coming.now.states.now.facts.items in
    let i = c.args.coming.now.intersection in
    let from = c.args.coming.now.from in
    let n = c.args.state.0 in
    let d = c.args.departure in
    if_none c.arc_ahead.result
    ((u : NodeId) (x : List Span) (a : TurnArc) → IsReached M P m facts n u i.rules.node x → IsArcEntry M P x a
    → a.piece ≡ d.piece → ⊥)
    ((x : List Span) (a : TurnArc) → IsReached M P m facts n from i.rules.node x → IsArcEntry M P x a
    → a.piece ≡ d.piece → ⊥)
    (λ h x a reached. h from x a reached) c.arc_ahead.ensures.none
