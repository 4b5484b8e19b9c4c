use Rattle.std.proofs.Common.{subst}
use Rattle.road_base.specs.declared.ids.WayId.{WayId}
use Rattle.way_pieces.specs.RoadPieces.{AreStops}
use Rattle.way_pieces.proofs.road_pieces.RoadPieces.stops_of.Goals as goal

pub returns : goal.returns
returns c = λ M P are.
    let at = c.in_ok-at.at in
    let road = c.in_ok-at.ensures in
    subst (λ (w : WayId). AreStops M P w c.at.result.now) road.2
    (are.stops at road.0 c.at.result.now road.1 c.at.ensures)
