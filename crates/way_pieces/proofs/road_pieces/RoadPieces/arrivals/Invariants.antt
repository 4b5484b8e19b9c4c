use Rattle.std.proofs.Common.{take}
use Rattle.ordered_lists.specs.Orders.{Lists}
use Rattle.road_model.specs.Orders.{name_cmp}
use Rattle.way_pieces.specs.declared.arrivals.Arrival.{Arrival}
use Rattle.way_pieces.specs.Arrivals.{arriving}
use Rattle.way_pieces.specs.Names.{IsArrival}
use Rattle.way_pieces.proofs.WaysSoFar.{SoFar}
use Rattle.way_pieces.proofs.road_pieces.RoadPieces.arrivals.Given as goal

-- the arrivals over the ways so far are listed
abbrev pub invariant-loop-way : goal.invariant-loop-way
invariant-loop-way g l =
    Lists arriving name_cmp
    (SoFar (λ (a : Arrival). a.span.name.way)
    (IsArrival (g.M.World.objects l.network.world.now) (g.P.Profile.rules l.network.profile) l.node)
    (take l.way-index l.way-items)) l.arrivals.items
