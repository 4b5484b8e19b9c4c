-- The pieces of one road more, and where they start and end.
use Rattle.std.proofs.Common.{◌≡◌, length, get_or, ap, subst, arith}
use Rattle.road_base.specs.declared.ids.WayId.{WayId}
use Rattle.way_lines.specs.declared.roads.Road.{Road}
use Rattle.way_pieces.specs.RoadPieces.{AreSpans, AreStarts, AreStops, IsKeptLineOf}
use Rattle.way_pieces.proofs.CutRoads.{none_known, more_known, known_of, one_longer, nowhere}
use Rattle.way_pieces.proofs.road_pieces.RoadPieces.of.Goals as goal

pub loop-road-init : goal.loop-road-init
loop-road-init g c =
    let M = g.M.World.objects c.args.network.now.world.now in
    let P = g.P.Profile.rules c.args.network.now.profile in
    record {
      span_count = ap length c.new-spans.ensures;
      start_count = ap length c.new-starts.ensures;
      stop_count = ap length c.new-stops.ensures;
      spans = none_known (AreSpans M P) c.items-road-items.result.now c.new-spans.result c.new-spans.ensures;
      starts = none_known (AreStarts M P) c.items-road-items.result.now c.new-starts.result c.new-starts.ensures;
      stops = none_known (AreStops M P) c.items-road-items.result.now c.new-stops.result c.new-stops.ensures;
    }

pub loop-road-preserved : goal.loop-road-preserved
loop-road-preserved g c =
    let M = g.M.World.objects c.args.network.now.world.now in
    let P = g.P.Profile.rules c.args.network.now.profile in
    let i = c.loop-road.road-index in
    let way : c.in_ok-line.line.road.way ≡ (get_or c.items-road-items.result.now i nowhere).way =
    ap (λ (r : Road). r.way) c.in_ok-line.ensures.road in
    record {
      span_count = one_longer c.loop-road.spans c.push.new.self c.as_slice.result.now i
          c.loop-road.invariant.span_count c.in_ok-push.ensures.ok;
      start_count = one_longer c.loop-road.starts c.push-in-loop-road.new.self c.as_slice-in-loop-road.result.now i
          c.loop-road.invariant.start_count c.in_ok-push-2.ensures.ok;
      stop_count = one_longer c.loop-road.stops c.push-in-loop-road-2.new.self c.as_slice-in-loop-road-2.result.now i
          c.loop-road.invariant.stop_count c.in_ok-push-3.ensures.ok;
      spans = more_known (AreSpans M P) c.items-road-items.result.now i nowhere c.loop-road.spans c.push.new.self
          c.in_ok-pieces.pieces.spans.items c.as_slice.result.now
          c.loop-road-test.true c.loop-road.invariant.span_count c.in_ok-push.ensures.ok c.as_slice.ensures.value
          (subst (λ (w : WayId). AreSpans M P w c.in_ok-pieces.pieces.spans.items) way c.in_ok-pieces.ensures.spans)
          c.loop-road.invariant.spans;
      starts = more_known (AreStarts M P) c.items-road-items.result.now i nowhere c.loop-road.starts
          c.push-in-loop-road.new.self c.in_ok-pieces.pieces.starts.items c.as_slice-in-loop-road.result.now
          c.loop-road-test.true c.loop-road.invariant.start_count c.in_ok-push-2.ensures.ok
          c.as_slice-in-loop-road.ensures.value
          (subst (λ (w : WayId). AreStarts M P w c.in_ok-pieces.pieces.starts.items) way c.in_ok-pieces.ensures.starts)
          c.loop-road.invariant.starts;
      stops = more_known (AreStops M P) c.items-road-items.result.now i nowhere c.loop-road.stops
          c.push-in-loop-road-2.new.self c.in_ok-pieces.pieces.stops.items c.as_slice-in-loop-road-2.result.now
          c.loop-road-test.true c.loop-road.invariant.stop_count c.in_ok-push-3.ensures.ok
          c.as_slice-in-loop-road-2.ensures.value
          (subst (λ (w : WayId). AreStops M P w c.in_ok-pieces.pieces.stops.items) way c.in_ok-pieces.ensures.stops)
          c.loop-road.invariant.stops;
    }

pub returns-clause-are : goal.returns-clause-are
returns-clause-are g c =
    let M = g.M.World.objects c.args.network.now.world.now in
    let P = g.P.Profile.rules c.args.network.now.profile in
    let roads = c.in_ok-roads.roads.roads.items in
    let past = c.loop-road-test.false in
    let upto = c.loop-road.auto.road-index-end in
    let all : length c.items-road-items.result.now ≡ length roads = ap length c.items-road-items.ensures in
    let span_count = c.loop-road.invariant.span_count in
    record {
      roads = c.in_ok-roads.ensures.are;
      span_count = omega arith;
      spans = known_of (AreSpans M P) c.items-road-items.result.now roads c.loop-road.spans c.items-road-items.ensures
          c.loop-road.invariant.spans;
      starts = known_of (AreStarts M P) c.items-road-items.result.now roads c.loop-road.starts
          c.items-road-items.ensures c.loop-road.invariant.starts;
      stops = known_of (AreStops M P) c.items-road-items.result.now roads c.loop-road.stops
          c.items-road-items.ensures c.loop-road.invariant.stops;
      lines = none_known (IsKeptLineOf M P) roads _ c.new.ensures.items;
    }
