-- What is known of the node where the piece ends is what is asked for.
use Rattle.std.proofs.Common.{List, sym, subst}
use Rattle.ordered_lists.specs.Orders.{Lists}
use Rattle.road_model.specs.Orders.{name_cmp}
use Rattle.way_pieces.specs.declared.departures.Departure.{Departure}
use Rattle.way_pieces.specs.Names.{Arrives, IsDeparture, piece_of}
use Rattle.expanded_graph.proofs.pieces.contexts_at.Goals as goal

pub contexts_there-requires-clause-intersection : goal.contexts_there-requires-clause-intersection
contexts_there-requires-clause-intersection g c =
    let M = g.M.World.objects c.args.network.now.world.now in
    let P = g.P.Profile.rules c.args.network.now.profile in
    let states = c.args.tables.now.watched.states in
    c.in-Some.ensures.is M P states.automaton states.facts.items c.requires.tables.intersections

pub contexts_there-requires-clause-free : goal.contexts_there-requires-clause-free
contexts_there-requires-clause-free g c =
    let M = g.M.World.objects c.args.network.now.world.now in
    let P = g.P.Profile.rules c.args.network.now.profile in
    let states = c.args.tables.now.watched.states in
    c.in-Some.ensures.free M P states.automaton states.facts.items c.requires.tables.intersections

pub contexts_there-requires-clause-arrives : goal.contexts_there-requires-clause-arrives
contexts_there-requires-clause-arrives g c =
    let M = g.M.World.objects c.args.network.now.world.now in
    subst (Arrives M (piece_of c.args.span) c.args.end.from) (sym c.in-Some.ensures.node) c.requires.arrives

pub contexts_there-requires-2-clause-intersection : goal.contexts_there-requires-2-clause-intersection
contexts_there-requires-2-clause-intersection g c =
    let M = g.M.World.objects c.args.network.now.world.now in
    let P = g.P.Profile.rules c.args.network.now.profile in
    let rules = c.of-rules in
    record {
      rules = rules.ensures.rules;
      leaving =
          subst (λ v. Lists (λ d. d.piece) name_cmp (IsDeparture M P v) c.as_slice.result.now) (sym rules.ensures.node)
          (subst (λ (l : List Departure). Lists (λ d. d.piece) name_cmp (IsDeparture M P c.args.end.at) l)
          (sym c.as_slice.ensures.value) c.in_ok-departures.ensures);
    }

pub contexts_there-requires-2-clause-arrives : goal.contexts_there-requires-2-clause-arrives
contexts_there-requires-2-clause-arrives g c =
    let M = g.M.World.objects c.args.network.now.world.now in
    subst (Arrives M (piece_of c.args.span) c.args.end.from) (sym c.of-rules.ensures.node) c.requires.arrives
