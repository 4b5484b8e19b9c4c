-- The sources are the plain pieces that may go on, or those of all arcs by the departure.
use Rattle.std.proofs.Common.{List, [], ◌∷◌, ◌++◌, map, sym, subst, IsTrue}
use Rattle.ordered_lists.specs.Orders.{Lists, rises}
use Rattle.road_model.specs.declared.lists.Context.{Context}
use Rattle.road_model.specs.declared.lists.PieceName.{PieceName}
use Rattle.road_model.specs.Orders.{names_cmp}
use Rattle.road_model.specs.Blocks.{IsContextEntry}
use Rattle.expanded_graph.specs.Plain.{to_piece}
use Rattle.expanded_graph.specs.Sources.{AreLeadingBy}
use Rattle.expanded_graph.proofs.NextDepartures.{Laws}
use Rattle.expanded_graph.proofs.PlainSources.{plain_leading, plain_rise, first_listed}
use Rattle.expanded_graph.proofs.SourceLists.{one_by_source}
use Rattle.expanded_graph.proofs.sourced.sourced_by.Goals as goal

pub returns-then-are_plain-clause-listed : goal.returns-then-are_plain-clause-listed
returns-then-are_plain-clause-listed g c = λ p is named bare.
    let M = g.M.World.objects c.args.network.now.world.now in
    let P = g.P.Profile.rules c.args.network.now.profile in
    let states = c.args.tables.now.watched.states in
    let i = c.args.meeting.intersection in
    let cs = c.args.meeting.arrivals.now in
    let d = c.args.departure in
    let order = c.name_order.ensures in
    let one = c.one_name.ensures.pieces M in
    let ss = c.in_ok-sources.sources.items in
    let laws : Laws M P = record { names = order.names; one = one; depart = c.steps_depart.ensures M } in
    let leads = plain_leading M P laws states.automaton states.facts.items i c.requires.intersection
    (c.requires.free c.if-meeting.true) cs c.requires.arrivals d c.requires.departure
    (c.are_plain.ensures c.if-are_plain.true) (c.contexts.ensures.one M) p is named in
    let up = plain_rise order.lists i d cs c.requires.arrivals.listed.ascending in
    subst (λ (l : List Context). Lists (λ x. x.before) names_cmp (IsContextEntry M P p) l) (sym c.with_first.ensures)
    (first_listed M P one order.names order.lists order.list_ties p ss
    (subst (λ (l : List (List PieceName)). IsTrue (rises names_cmp l)) (sym c.in_ok-sources.ensures) up)
    (subst (λ (l : List (List PieceName)). AreLeadingBy M P p (map to_piece l)) (sym c.in_ok-sources.ensures) leads)
    c.args.bare.items c.requires.alone bare)

pub with_sources-requires : goal.with_sources-requires
with_sources-requires g c =
    let M = g.M.World.objects c.args.network.now.world.now in
    let P = g.P.Profile.rules c.args.network.now.profile in
    let d = c.requires.intersection.leaving.sound c.args.departure c.requires.departure in
    record {
      leading = one_by_source M P (c.one_name.ensures.pieces M) c.name_order.ensures.lists
          c.name_order.ensures.list_ties d.piece c.in_ok-leading.leading.items
          (c.in_ok-leading.ensures d.piece d.is d.named)
          (λ a b e f k. c.contexts.ensures.one M (a ++ d.piece ∷ []) b e f.to k.to);
    }

pub returns-clause-listed : goal.returns-clause-listed
returns-clause-listed g c = λ p is named bare.
    c.in_ok-written.ensures.listed p bare (c.in_ok-leading.ensures p is named)
