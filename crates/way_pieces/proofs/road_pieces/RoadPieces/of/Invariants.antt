use Rattle.std.proofs.Common.{◌≡◌, length}
use Rattle.way_pieces.specs.RoadPieces.{AreSpans, AreStarts, AreStops}
use Rattle.way_pieces.proofs.CutRoads.{AreKnown}
use Rattle.way_pieces.proofs.road_pieces.RoadPieces.of.Given as goal

-- the roads so far were cut
abbrev pub invariant-loop-road : goal.invariant-loop-road
invariant-loop-road g l =
    let M = g.M.World.objects l.network.world.now in
    let P = g.P.Profile.rules l.network.profile in
    record {
      span_count : length l.spans ≡ l.road-index;
      start_count : length l.starts ≡ l.road-index;
      stop_count : length l.stops ≡ l.road-index;
      spans : AreKnown (AreSpans M P) l.road-items l.spans;
      starts : AreKnown (AreStarts M P) l.road-items l.starts;
      stops : AreKnown (AreStops M P) l.road-items l.stops;
    }
