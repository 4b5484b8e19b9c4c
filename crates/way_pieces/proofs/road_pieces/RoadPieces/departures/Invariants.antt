use Rattle.std.proofs.Common.{take}
use Rattle.ordered_lists.specs.Orders.{Lists}
use Rattle.road_model.specs.Orders.{name_cmp}
use Rattle.way_pieces.specs.declared.departures.Departure.{Departure}
use Rattle.way_pieces.specs.Names.{IsDeparture}
use Rattle.way_pieces.proofs.WaysSoFar.{SoFar}
use Rattle.way_pieces.proofs.road_pieces.RoadPieces.departures.Given as goal

-- the departures over the ways so far are listed
abbrev pub invariant-loop-way : goal.invariant-loop-way
invariant-loop-way g l =
    Lists (λ d. d.piece) name_cmp
    (SoFar (λ (d : Departure). d.first.way)
    (IsDeparture (g.M.World.objects l.network.world.now) (g.P.Profile.rules l.network.profile) l.node)
    (take l.way-index l.way-items)) l.departures.items
