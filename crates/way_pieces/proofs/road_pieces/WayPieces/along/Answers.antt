-- The starts of the pieces are the departures over the way, their ends the arrivals, and sorting leaves those of each
-- node as they were.
use Rattle.std.proofs.Common.{List, map, sym, ap, subst, ◌∙◌}
use Rattle.way_pieces.specs.declared.spans.PieceSpan.{PieceSpan}
use Rattle.way_pieces.specs.RoadPieces.{AreSpans}
use Rattle.way_pieces.specs.Starts.{start_on}
use Rattle.way_pieces.specs.Stops.{stop_on}
use Rattle.way_pieces.proofs.StartOrder.{all_within, are_starts}
use Rattle.way_pieces.proofs.StopOrder.{are_stops}
use Rattle.way_pieces.proofs.road_pieces.WayPieces.along.Goals as goal

pub starts_of-requires : goal.starts_of-requires
starts_of-requires g c =
    let M = g.M.World.objects c.args.network.now.world.now in
    let P = g.P.Profile.rules c.args.network.now.profile in
    let w = c.args.line.now.road.way in
    all_within M P w c.as_slice-2.result.now (λ road. c.as_slice-2.ensures.value ∙ c.requires.line.line road)
    c.as_slice-3.result.now
    (subst (λ (xs : List PieceSpan). AreSpans M P w xs) (sym c.as_slice-3.ensures.value) c.in_ok-spans.ensures)

pub stops_of-requires : goal.stops_of-requires
stops_of-requires g c =
    let M = g.M.World.objects c.args.network.now.world.now in
    let P = g.P.Profile.rules c.args.network.now.profile in
    let w = c.args.line.now.road.way in
    all_within M P w c.as_slice-4.result.now (λ road. c.as_slice-4.ensures.value ∙ c.requires.line.line road)
    c.as_slice-5.result.now
    (subst (λ (xs : List PieceSpan). AreSpans M P w xs) (sym c.as_slice-5.ensures.value) c.in_ok-spans.ensures)

pub returns : goal.returns
returns g c =
    let M = g.M.World.objects c.args.network.now.world.now in
    let P = g.P.Profile.rules c.args.network.now.profile in
    let nodes = c.as_slice-2.result.now in
    let line = c.as_slice-4.result.now in
    record {
      spans = c.in_ok-spans.ensures;
      starts = are_starts M P c.args.line.now.road.way c.name_order.ensures.names c.number_order.ensures.nodes
          c.number_order.ensures.node_ties
          nodes (λ road. c.as_slice-2.ensures.value ∙ c.requires.line.line road) c.in_ok-spans.spans.items
          c.in_ok-spans.ensures c.in_ok-starts.starts.items c.put_in_order.new.items.items
          (c.in_ok-starts.ensures ∙ ap (map (start_on nodes)) c.as_slice-3.ensures.value)
          c.in_ok-put_in_order.ensures.sorted c.in_ok-put_in_order.ensures.stable;
      stops = are_stops M P c.args.line.now.road.way c.name_order.ensures.names c.number_order.ensures.nodes
          c.number_order.ensures.node_ties
          line (λ road. c.as_slice-4.ensures.value ∙ c.requires.line.line road) c.in_ok-spans.spans.items
          c.in_ok-spans.ensures c.in_ok-stops.stops.items c.put_in_order-2.new.items.items
          (c.in_ok-stops.ensures ∙ ap (map (stop_on line)) c.as_slice-5.ensures.value)
          c.in_ok-put_in_order-2.ensures.sorted c.in_ok-put_in_order-2.ensures.stable;
    }
