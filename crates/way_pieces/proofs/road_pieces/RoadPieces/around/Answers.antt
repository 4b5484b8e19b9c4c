-- The pieces of one way more, where they start and end, and its line, where it is kept.
use Rattle.std.proofs.Common.{◌≡◌, List, length, map, refl, sym, ap, subst, ◌∙◌, arith}
use Rattle.std.specs.List.{All}
use Rattle.std.proofs.lemmas.List.{length-map}
use Rattle.way_lines.specs.declared.roads.Road.{Road}
use Rattle.way_pieces.specs.declared.met_ways.MetWay.{MetWay}
use Rattle.way_pieces.specs.RoadPieces.{AreSpans, AreStarts, AreStops, IsKeptLineOf, IsMetWay}
use Rattle.way_pieces.proofs.CutRoads.{known_of, one_longer, roads_in, ways_in, one_met}
use Rattle.way_pieces.proofs.road_pieces.RoadPieces.around.Goals as goal

pub loop-way-preserved : goal.loop-way-preserved
loop-way-preserved g c =
    let M = g.M.World.objects c.args.network.now.world.now in
    let P = g.P.Profile.rules c.args.network.now.profile in
    let ways = c.as_slice-way-items.result.now in
    let i = c.loop-way.way-index in
    let way = c.way-item.result in
    let cut = c.in_ok-cut.cut in
    record {
      span_count = one_longer c.loop-way.spans c.push.new.self c.as_slice-in-loop-way.result.now i
          c.loop-way.invariant.span_count c.in_ok-push.ensures.ok;
      start_count = one_longer c.loop-way.starts c.push-in-loop-way.new.self c.as_slice-in-loop-way-2.result.now i
          c.loop-way.invariant.start_count c.in_ok-push-2.ensures.ok;
      stop_count = one_longer c.loop-way.stops c.push-in-loop-way-2.new.self c.as_slice-in-loop-way-3.result.now i
          c.loop-way.invariant.stop_count c.in_ok-push-3.ensures.ok;
      spans = one_met (AreSpans M P) ways i way c.loop-way.spans c.push.new.self cut.pieces.spans.items
          c.as_slice-in-loop-way.result.now c.loop-way-test.true c.way-item.is c.loop-way.invariant.span_count
          c.in_ok-push.ensures.ok c.as_slice-in-loop-way.ensures.value c.in_ok-cut.ensures.pieces.spans
          c.loop-way.invariant.spans;
      starts = one_met (AreStarts M P) ways i way c.loop-way.starts c.push-in-loop-way.new.self
          cut.pieces.starts.items c.as_slice-in-loop-way-2.result.now c.loop-way-test.true c.way-item.is
          c.loop-way.invariant.start_count c.in_ok-push-2.ensures.ok c.as_slice-in-loop-way-2.ensures.value
          c.in_ok-cut.ensures.pieces.starts c.loop-way.invariant.starts;
      stops = one_met (AreStops M P) ways i way c.loop-way.stops c.push-in-loop-way-2.new.self
          cut.pieces.stops.items c.as_slice-in-loop-way-3.result.now c.loop-way-test.true c.way-item.is
          c.loop-way.invariant.stop_count c.in_ok-push-3.ensures.ok c.as_slice-in-loop-way-3.ensures.value
          c.in_ok-cut.ensures.pieces.stops c.loop-way.invariant.stops;
      line_count = one_longer c.loop-way.lines.items c.push-in-loop-way-3.new.self.items cut.line i
          c.loop-way.invariant.line_count c.in_ok-push-4.ensures.items;
      lines = one_met (IsKeptLineOf M P) ways i way c.loop-way.lines.items c.push-in-loop-way-3.new.self.items cut.line
          cut.line c.loop-way-test.true c.way-item.is c.loop-way.invariant.line_count c.in_ok-push-4.ensures.items refl
          c.in_ok-cut.ensures.line c.loop-way.invariant.lines;
    }

pub returns-clause-are : goal.returns-clause-are
returns-clause-are g c =
    let M = g.M.World.objects c.args.network.now.world.now in
    let P = g.P.Profile.rules c.args.network.now.profile in
    let ways = c.as_slice-way-items.result.now in
    let roads = c.in_ok-roads.roads.roads.items in
    let past = c.loop-way-test.false in
    let upto = c.loop-way.auto.way-index-end in
    let met : c.as_slice.result.now ≡ ways = c.as_slice.ensures.value ∙ sym c.as_slice-way-items.ensures.value in
    let same : roads_in ways ≡ roads = ap roads_in (sym met) ∙ sym c.in_ok-roads.ensures.roads in
    let all : length ways ≡ length roads = sym (length-map ways (λ (m : MetWay). m.road)) ∙ ap length same in
    let span_count = c.loop-way.invariant.span_count in
    record {
      roads = c.in_ok-roads.ensures.are M P
          (subst (λ (l : List MetWay). All (IsMetWay M P) l) (sym c.as_slice.ensures.value) c.in_ok-ways.ensures.are);
      span_count = omega arith;
      spans = known_of (AreSpans M P) (roads_in ways) roads c.loop-way.spans same c.loop-way.invariant.spans;
      starts = known_of (AreStarts M P) (roads_in ways) roads c.loop-way.starts same c.loop-way.invariant.starts;
      stops = known_of (AreStops M P) (roads_in ways) roads c.loop-way.stops same c.loop-way.invariant.stops;
      lines = known_of (IsKeptLineOf M P) (roads_in ways) roads c.loop-way.lines.items same
          c.loop-way.invariant.lines;
    }

pub returns-clause-ways : goal.returns-clause-ways
returns-clause-ways g c =
    ap (map (λ (r : Road). r.way)) c.in_ok-roads.ensures.roads
    ∙ (ways_in c.as_slice.result.now
    ∙ (ap (map (λ (m : MetWay). m.road.way)) c.as_slice.ensures.value ∙ c.in_ok-ways.ensures.ways))
