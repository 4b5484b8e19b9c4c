-- The line is that of the way.
use Rattle.std.proofs.Common.{◌≡◌, ap, subst}
use Rattle.road_base.specs.declared.ids.WayId.{WayId}
use Rattle.way_lines.specs.declared.roads.Road.{Road}
use Rattle.way_pieces.specs.RoadPieces.{AreWayPieces}
use Rattle.way_pieces.proofs.road_pieces.CutRoad.own.Goals as goal

pub returns : goal.returns
returns g c =
    let M = g.M.World.objects c.args.network.now.world.now in
    let P = g.P.Profile.rules c.args.network.now.profile in
    let way : c.in_ok-line.line.road.way ≡ c.args.road.way = ap (λ (r : Road). r.way) c.in_ok-line.ensures.road in
    record {
      pieces = subst (λ (w : WayId). AreWayPieces M P w c.in_ok-pieces.pieces) way c.in_ok-pieces.ensures;
      line = record { of = way; line = c.in_ok-line.ensures.line; short = c.in_ok-line.ensures.short };
    }
