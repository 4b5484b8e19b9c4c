use Rattle.std.proofs.Common.{List, take}
use Rattle.road_model.specs.Pieces.{Span}
use Rattle.road_model.specs.Orders.{name_cmp}
use Rattle.road_model.specs.Blocks.{IsArcEntry}
use Rattle.expanded_graph.specs.Contexts.{IsReached}
use Rattle.expanded_graph.proofs.Chosen.{Chosen}
use Rattle.expanded_graph.proofs.arcs.arcs_at.Given as goal

-- the arcs so far are those by the departures so far
abbrev pub invariant-loop-departure : goal.invariant-loop-departure
invariant-loop-departure g l =
    (c : List Span)
    → IsReached (g.M.World.objects l.coming.network.now.world.now) (g.P.Profile.rules l.coming.network.now.profile)
    l.coming.states.now.automaton
    l.coming.states.now.facts.items l.state.0 l.coming.from l.coming.intersection.rules.node c
    → Chosen (λ a. a.piece) (λ d. d.piece) name_cmp
    (IsArcEntry (g.M.World.objects l.coming.network.now.world.now) (g.P.Profile.rules l.coming.network.now.profile) c)
    (take l.departure-index l.departures) l.arcs.items
