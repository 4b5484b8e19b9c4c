use Rattle.std.proofs.Common.{List, take, IsTrue}
use Rattle.road_base.specs.declared.ids.NodeId.{NodeId}
use Rattle.road_model.specs.Pieces.{Span}
use Rattle.road_model.specs.Blocks.{IsArcEntry}
use Rattle.way_pieces.specs.declared.departures.Departure.{Departure}
use Rattle.expanded_graph.specs.Contexts.{IsReached}
use Rattle.expanded_graph.specs.Intersections.{may_follow}
use Rattle.ordered_lists.proofs.ListMembers.{In}
use Rattle.expanded_graph.proofs.arcs.are_free.Given as goal

-- by each of the departures so far an arc leads to its piece alone
abbrev pub invariant-loop-departure : goal.invariant-loop-departure
invariant-loop-departure g l =
    let M = g.M.World.objects l.network.world.now in
    let P = g.P.Profile.rules l.network.profile in
    let i = l.intersection in
    (d : Departure) (u : NodeId) (c : List Span) → In d (take l.departure-index l.departures)
    → IsTrue (may_follow i u d)
    → IsReached M P l.states.automaton l.states.facts.items 0 u i.rules.node c
    → IsArcEntry M P c (record { piece = d.piece; length = 1 })
