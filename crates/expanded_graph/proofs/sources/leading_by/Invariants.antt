use Rattle.std.proofs.Common.{◌≡◌, take}
use Rattle.road_model.specs.Pieces.{Span, IsPiece}
use Rattle.road_model.specs.Blocks.{name_of}
use Rattle.way_pieces.specs.Names.{piece_of}
use Rattle.expanded_graph.specs.Arrivals.{arrival_of}
use Rattle.expanded_graph.proofs.SourceArrivals.{AreFrom}
use Rattle.expanded_graph.proofs.sources.leading_by.Given as goal

-- the arcs so far are those from the contexts of the arrivals so far
abbrev pub invariant-loop-incoming : goal.invariant-loop-incoming
invariant-loop-incoming g l =
    let M = g.M.World.objects l.network.world.now in
    let P = g.P.Profile.rules l.network.profile in
    (p : Span) → IsPiece M P p → l.fn.departure.piece ≡ name_of p
    → AreFrom M P p (λ a. piece_of (arrival_of a).span) (take l.incoming-index l.arrivals) l.list.items
