-- What comes to the node is told apart.
use Rattle.std.proofs.Common.{List, sym, subst}
use Rattle.ordered_lists.specs.Orders.{Lists}
use Rattle.road_model.specs.Orders.{name_cmp}
use Rattle.way_pieces.specs.declared.arrivals.Arrival.{Arrival}
use Rattle.way_pieces.specs.Names.{IsArrival}
use Rattle.expanded_graph.proofs.intersections.told_at.Goals as goal

pub told_apart-requires-clause-arrivals : goal.told_apart-requires-clause-arrivals
told_apart-requires-clause-arrivals g c =
    let M = g.M.World.objects c.args.network.now.world.now in
    let P = g.P.Profile.rules c.args.network.now.profile in
    subst (λ (l : List Arrival). Lists (λ a. a.span.name) name_cmp (IsArrival M P c.args.node) l)
    (sym c.as_slice.ensures.value) c.in_ok-coming.ensures
