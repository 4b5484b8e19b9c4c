use Rattle.std.proofs.Common.{◌≡◌, length, map}
use Rattle.way_pieces.specs.declared.met_ways.MetWay.{MetWay}
use Rattle.way_pieces.specs.RoadPieces.{AreSpans, AreStarts, AreStops, IsKeptLineOf}
use Rattle.way_pieces.proofs.CutRoads.{AreKnown}
use Rattle.way_pieces.proofs.road_pieces.RoadPieces.around.Given as goal

-- the ways so far were cut
abbrev pub invariant-loop-way : goal.invariant-loop-way
invariant-loop-way g l =
    let M = g.M.World.objects l.network.world.now in
    let P = g.P.Profile.rules l.network.profile in
    let roads = map (λ (m : MetWay). m.road) l.way-items in
    record {
      span_count : length l.spans ≡ l.way-index;
      start_count : length l.starts ≡ l.way-index;
      stop_count : length l.stops ≡ l.way-index;
      spans : AreKnown (AreSpans M P) roads l.spans;
      starts : AreKnown (AreStarts M P) roads l.starts;
      stops : AreKnown (AreStops M P) roads l.stops;
      line_count : length l.lines.items ≡ l.way-index;
      lines : AreKnown (IsKeptLineOf M P) roads l.lines.items;
    }
