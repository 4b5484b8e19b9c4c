-- What is known of the node where the piece starts is what is asked for, and the piece leaves there.
use Rattle.std.proofs.Common.{List, Contains, sym, subst, ◌∙◌}
use Rattle.std.proofs.lemmas.Bool.{false≢true}
use Rattle.ordered_lists.specs.Orders.{Lists}
use Rattle.road_model.specs.Orders.{name_cmp}
use Rattle.way_pieces.specs.declared.arrivals.Arrival.{Arrival}
use Rattle.way_pieces.specs.declared.departures.Departure.{Departure}
use Rattle.way_pieces.specs.Names.{IsArrival, IsDeparture}
use Rattle.expanded_graph.specs.Arrivals.{AreComing}
use Rattle.expanded_graph.proofs.sourced.sourced_at.Goals as goal

pub sourced_by-requires-clause-intersection : goal.sourced_by-requires-clause-intersection
sourced_by-requires-clause-intersection g c =
    let M = g.M.World.objects c.args.network.now.world.now in
    let P = g.P.Profile.rules c.args.network.now.profile in
    let states = c.args.tables.now.watched.states in
    (c.in-Some.ensures.is M P states.automaton states.facts.items c.requires.tables.intersections).0

pub sourced_by-requires-clause-arrivals : goal.sourced_by-requires-clause-arrivals
sourced_by-requires-clause-arrivals g c =
    let M = g.M.World.objects c.args.network.now.world.now in
    let P = g.P.Profile.rules c.args.network.now.profile in
    let states = c.args.tables.now.watched.states in
    (c.in-Some.ensures.is M P states.automaton states.facts.items c.requires.tables.intersections).1

pub sourced_by-requires-clause-free : goal.sourced_by-requires-clause-free
sourced_by-requires-clause-free g c =
    let M = g.M.World.objects c.args.network.now.world.now in
    let P = g.P.Profile.rules c.args.network.now.profile in
    let states = c.args.tables.now.watched.states in
    c.in-Some.ensures.free M P states.automaton states.facts.items c.requires.tables.intersections

pub sourced_by-requires-clause-departure : goal.sourced_by-requires-clause-departure
sourced_by-requires-clause-departure g c =
    let M = g.M.World.objects c.args.network.now.world.now in
    let P = g.P.Profile.rules c.args.network.now.profile in
    let states = c.args.tables.now.watched.states in
    let known = (c.in-Some.ensures.is M P states.automaton states.facts.items c.requires.tables.intersections).0 in
    known.leaving.complete c.args.start.departure
    (subst (λ v. IsDeparture M P v c.args.start.departure) (sym c.in-Some.ensures.node) c.requires.start)

pub sourced_by-requires-2-clause-intersection : goal.sourced_by-requires-2-clause-intersection
sourced_by-requires-2-clause-intersection g c =
    let M = g.M.World.objects c.args.network.now.world.now in
    let P = g.P.Profile.rules c.args.network.now.profile in
    let rules = c.of-rules in
    record {
      rules = rules.ensures.rules;
      leaving =
          subst (λ v. Lists (λ d. d.piece) name_cmp (IsDeparture M P v) c.as_slice-2.result.now)
          (sym rules.ensures.node)
          (subst (λ (l : List Departure). Lists (λ d. d.piece) name_cmp (IsDeparture M P c.args.start.at) l)
          (sym c.as_slice-2.ensures.value) c.in_ok-departures.ensures);
    }

pub sourced_by-requires-2-clause-arrivals : goal.sourced_by-requires-2-clause-arrivals
sourced_by-requires-2-clause-arrivals g c =
    let M = g.M.World.objects c.args.network.now.world.now in
    let P = g.P.Profile.rules c.args.network.now.profile in
    let states = c.args.tables.now.watched.states in
    let told = c.in_ok-arrivals in
    let coming : Lists (λ a. a.span.name) name_cmp (IsArrival M P c.args.start.at) c.as_slice.result.now =
    subst (λ (l : List Arrival). Lists (λ a. a.span.name) name_cmp (IsArrival M P c.args.start.at) l)
    (sym c.as_slice.ensures.value) c.in_ok-coming.ensures in
    let at : Lists (λ a. a.span.name) name_cmp (IsArrival M P c.of-rules.result.node) c.as_slice.result.now =
    subst (λ v. Lists (λ a. a.span.name) name_cmp (IsArrival M P v) c.as_slice.result.now)
    (sym c.of-rules.ensures.node) coming in
    subst (AreComing M P states.automaton states.facts.items c.of-rules.result.node) (sym c.as_slice-3.ensures.value)
    (record {
      listed = subst (λ (l : List Arrival). Lists (λ a. a.span.name) name_cmp (IsArrival M P c.of-rules.result.node) l)
          (sym told.ensures.arrivals) at;
      plain = λ x has is. absurd (false≢true (sym (told.ensures.none x has) ∙ is));
    })

pub sourced_by-requires-2-clause-departure : goal.sourced_by-requires-2-clause-departure
sourced_by-requires-2-clause-departure g c =
    subst (λ (l : List Departure). Contains l c.args.start.departure) (sym c.as_slice-2.ensures.value)
    (c.in_ok-departures.ensures.complete c.args.start.departure c.requires.start)
